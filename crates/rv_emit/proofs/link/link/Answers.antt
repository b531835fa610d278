use Rattle.std.proofs.Common.{List, ℕ, ◌++◌, ◌<◌, ◌^◌, ◌∙◌, ap, arith, sym, subst}
use Rattle.rv_table.specs.declared.inst.Inst.{Inst}
use Rattle.rv_emit.specs.Code.{start_code}
use Rattle.rv_emit.specs.Encoded.{AllFit}
use Rattle.rv_emit.specs.Blocks.{blocks, all_code, entry_in}
use Rattle.rv_emit.proofs.Linkable.{main_is, entry_small, linked_fit}
use Rattle.rv_emit.proofs.link.link.Goals as goal

pub emit_start-requires : goal.emit_start-requires
emit_start-requires c =
    let u = blocks c.args.b.now in
    omega (
      arith,
      main_is c.args.b.now c.requires.can c.deref.result.now c.deref.ensures.value c.in_ok-entries.entries.items c.in_ok-entries.ensures c.index.result.now c.index.ensures,
      entry_small u c.requires.can u.main,
    )

pub encoded-requires : goal.encoded-requires
encoded-requires c =
    let u = blocks c.args.b.now in
    let P : List Inst → Type 0 = λ code. AllFit code in
    let more = all_code (entry_in u.list) u.addresses 0 u.list in
    let is =
    c.deref-3.ensures.value
    ∙ c.in_ok-fill_blocks.ensures.code
    ∙ ap (λ (l : List Inst). l ++ more) (c.in_ok-emit_start.ensures ∙ ap (λ (l : List Inst). l ++ start_code c.index.result.now) c.new-code.ensures.items)
    ∙ ap (λ (n : ℕ). start_code n ++ more) (main_is c.args.b.now c.requires.can c.deref.result.now c.deref.ensures.value c.in_ok-entries.entries.items c.in_ok-entries.ensures c.index.result.now c.index.ensures) in
    subst P (sym is) (linked_fit u c.requires.can)

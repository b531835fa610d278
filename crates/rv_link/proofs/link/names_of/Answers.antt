use Rattle.std.proofs.Common.{ℕ, ◌≡◌, ◌+◌, ◌*◌, List, ◌∷◌, [], ◌++◌, length, arith, ap, ◌∙◌, string_bytes}
use Rattle.rv_sites.specs.declared.sites.ProcedureName.{ProcedureName}
use Rattle.rv_link.proofs.Naming.{short_at, named_next, below_next, short_next}
use Rattle.rv_link.proofs.link.names_of.Goals as goal

pub loop-block-preserved : goal.loop-block-preserved
loop-block-preserved c =
    let bs = c.args.list.now in
    let i = c.loop-block.block-index in
    let b = c.block-item.result in
    let at = c.loop-block.next in
    let name : c.in_ok-name.name ≡ string_bytes b.name = c.in_ok-name.ensures ∙ c.as_bytes.ensures.value in
    let next = at + 4 * c.len.result in
    let size : next ≡ at + 4 * length b.code.items = omega (arith, c.len.ensures) in
    let pushed : c.push.new.self.items ≡ c.loop-block.names.items ++ record { entry = at; name = string_bytes b.name } ∷ [] =
    c.in_ok-push.ensures.items ∙ ap (λ (t : List ℕ). c.loop-block.names.items ++ record { entry = at; name = t } ∷ []) name in
    record {
      listed = named_next c.loop-block.names.items c.push.new.self.items _ at next bs i b c.loop-block-test.true c.block-item.is size c.loop-block.invariant.listed pushed;
      below = below_next at next bs i b c.loop-block-test.true c.block-item.is size c.loop-block.invariant.below;
      short = short_next c.loop-block.names.items c.push.new.self.items at (string_bytes b.name) c.loop-block.invariant.short (omega (arith, c.loop-block.invariant.below))
          (short_at bs i b c.loop-block-test.true c.block-item.is c.requires.names) pushed;
    }

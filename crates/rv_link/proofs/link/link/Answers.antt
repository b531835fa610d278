use Rattle.std.proofs.Common.{ℕ, ◌≡◌, ◌<◌, ◌^◌, ◌∙◌, List, length, map, arith, ap, subst, sym}
use Rattle.std.specs.Prelude.{All}
use Rattle.rv_table.specs.Run.{Site}
use Rattle.rv_sites.specs.Sections.{IsAddress}
use Rattle.rv_sites.specs.declared.sites.ProcedureName.{ProcedureName}
use Rattle.rv_emit.specs.Blocks.{blocks, block, all_sites, all_calls}
use Rattle.rv_emit.specs.declared.unlinked.Block.{Block as BlockType}
use Rattle.rv_emit.proofs.Linkable.{few_all_sites}
use Rattle.rv_link.specs.Linked.{first_block, names_from, HasSmallNumbers}
use Rattle.rv_link.proofs.Naming.{sites_of, names_length}
use Rattle.rv_link.proofs.link.link.Goals as goal

pub returns-clause-listing : goal.returns-clause-listing
returns-clause-listing c =
    let u = blocks c.args.b.now in
    let lists = c.requires.lists in
    let sites = c.in_ok-linked.linked.sites.items in
    let numbers : All HasSmallNumbers sites = subst (λ (l : List Site). All HasSmallNumbers l) c.deref-2.ensures.value c.have_small_numbers.ensures in
    let same : c.in_ok-names.names.items ≡ names_from first_block u.list =
    c.in_ok-names.ensures.are ∙ ap (λ (l : List BlockType). names_from first_block (map block l)) c.deref.ensures.value in
    let P : List ℕ → Type 0 = λ l. All IsAddress l in
    record {
      paths = lists.paths;
      texts = lists.texts;
      checks = omega (arith, ap length c.in_ok-linked.ensures.sites, few_all_sites (length u.list) (length u.addresses) u.list c.requires.can.blocks, c.requires.can.short);
      sites = sites_of (length c.args.paths.items) sites (all_sites u.list) c.in_ok-linked.ensures.sites lists.sites numbers;
      names = omega (arith, ap length same, names_length first_block u.list, lists.blocks);
      entries = c.in_ok-names.ensures.short;
      calls = omega (arith, ap length c.in_ok-linked.ensures.calls, lists.calls);
      addresses = subst P c.deref-3.ensures.value c.addresses_are_small.ensures;
    }

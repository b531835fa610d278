use Rattle.std.proofs.Common.{◌≡◌, ◌∙◌, sym, true, arith, drop, length-drop}
use Rattle.rv_sites.specs.Sections.{has_site, site_at}
use Rattle.rv_sites.proofs.Counted.{have_next, entry_next}
use Rattle.rv_sites.proofs.section.copy.copied_sites.Goals as goal

pub loop-left-preserved : goal.loop-left-preserved
loop-left-preserved c =
    let here : has_site c.args.paths c.loop-left.rest.now ≡ true = c.in-Some.ensures.0 in
    let one = have_next (has_site c.args.paths) (drop 16) c.loop-left.left c.loop-left.rest.now c.loop-left-test.true in
    record {
      all = entry_next site_at (drop 16) c.loop-left.left c.loop-left.rest.now c.behind-rest.result.now c.loop-left.sites.items _ _ c.in-Some.site c.loop-left-test.true c.loop-left.invariant.all c.in-Some.ensures.1 c.behind-rest.ensures c.in_ok-push.ensures.items;
      room = rw (c.behind-rest.ensures, length-drop) (omega (arith, c.loop-left.invariant.room));
      stand = sym (rw (here, ← c.behind-rest.ensures) at one) ∙ c.loop-left.invariant.stand;
    }

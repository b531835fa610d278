use Rattle.rv_sites.specs.Sections.{check_bytes}
use Rattle.rv_sites.proofs.Counted.{piece_at}
use Rattle.rv_sites.proofs.section.write.push_checks.Goals as goal

pub loop-site-preserved : goal.loop-site-preserved
loop-site-preserved c = piece_at check_bytes c.loop-site.out.items _ _ c.args.checks.now c.loop-site.site-index _ c.loop-site-test.true c.loop-site.invariant c.in_ok-push_site.ensures

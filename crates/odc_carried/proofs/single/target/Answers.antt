use Rattle.std.proofs.Common.{sym, ap, arith, length, ◌≡◌}
use Rattle.odc_carried.proofs.emitting.Forms.{target_none}
use Rattle.odc_carried.proofs.single.target.Goals as goal

pub returns-in-len2-up : goal.returns-in-len2-up
returns-in-len2-up c = sym (target_none c.args.targets.now (λ e is. let one : length c.args.targets.now ≡ 1 = ap length is in omega (arith, one, c.in-len2-up.len_at_least)))

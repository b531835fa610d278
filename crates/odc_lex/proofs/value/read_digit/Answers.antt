use Rattle.std.proofs.Common.{◌≡◌, suc, ◌+◌, ◌-◌, ◌*◌, ◌^◌, ◌≤◌, sym, subst, arith}
use Rattle.odc_lex.proofs.ValueLemmas.{digit_small, room_step, room_bounds}
use Rattle.odc_lex.proofs.value.read_digit.Goals as goal

pub overflow_mul-number : goal.overflow_mul-number
overflow_mul-number c = let small = room_bounds c.args.digits.number c.args.digits.left c.requires in omega (arith, small)

pub overflow_add-number : goal.overflow_add-number
overflow_add-number c =
    let small = room_bounds c.args.digits.number c.args.digits.left c.requires in
    omega (arith, small, digit_small c.args.b, c.digit_value.ensures)

pub returns-clause-room : goal.returns-clause-room
returns-clause-room c =
    let left = c.args.digits.left in
    let more : suc (left - 1) ≡ left = omega (arith, c.if-digits-eq0.false) in
    room_step c.args.digits.number c.digit_value.result (left - 1)
    (subst (λ k. (c.args.digits.number + 3) * 16 ^ k ≤ 16 ^ 8) (sym more) c.requires)
    (omega (arith, digit_small c.args.b, c.digit_value.ensures))

-- The run of the definition: instructions that are no events, and then one of any kind.
use Rattle.std.proofs.Common.{◌≡◌, ◌-◌, ◌<◌, ◌≤◌, false, None, Some, ap, ◌∙◌, refl, arith}
use Rattle.rv_machine.specs.Machine.{Loaded}
use Rattle.rv_machine.specs.Outside.{told}
use Rattle.rv_machine.proofs.Running.{running_first, running_at, running_down, running_next, steps_out, stop_runs, turned_on}
use Rattle.rv_machine.proofs.machine.Machine.run.Goals as goal

pub loop-left-init : goal.loop-left-init
loop-left-init g c =
    let t = told (g.S.Source.rest c.args.input.now) (g.O.Sink.written c.args.out.now) (g.E.Sink.written c.args.err.now) in
    record {
      running = running_at c.args.self.now c.args.steps 0 (c.args.steps - c.args.steps) c.args.self.now.state false t t (omega arith) (running_first c.args.self.now c.args.steps false t);
      within = omega arith;
      lists = refl;
      over = λ h. absurd (cc);
      counted_input = omega arith;
      counted_out = omega arith;
      counted_err = omega arith;
    }

pub returns-then-left-eq0-clause-is : goal.returns-then-left-eq0-clause-is
returns-then-left-eq0-clause-is g c =
    let t0 = told (g.S.Source.rest c.args.input.now) (g.O.Sink.written c.args.out.now) (g.E.Sink.written c.args.err.now) in
    let t = told (g.S.Source.rest c.loop-left.input) (g.O.Sink.written c.loop-left.out) (g.E.Sink.written c.loop-left.err) in
    let m = c.args.self.now in
    let left = c.loop-left.left - c.advance-left.result in
    let none : left ≡ 0 = c.if-left-eq0.true in
    let all : c.args.steps - left ≡ c.args.steps = omega arith in
    steps_out m c.args.steps (c.args.steps - left) c.advance-left.new.self.state c.loop-left.ended t0 t
    (running_down m c.args.steps c.loop-left.left c.advance-left.result c.loop-left.self.state c.advance-left.new.self.state c.loop-left.ended t0 t
    c.loop-left.invariant.running c.advance-left.ensures.is c.advance-left.ensures.most c.loop-left.invariant.within)
    all c.loop-left.invariant.over

pub returns-in-Some-clause-is : goal.returns-in-Some-clause-is
returns-in-Some-clause-is g c =
    let t0 = told (g.S.Source.rest c.args.input.now) (g.O.Sink.written c.args.out.now) (g.E.Sink.written c.args.err.now) in
    let t = told (g.S.Source.rest c.loop-left.input) (g.O.Sink.written c.loop-left.out) (g.E.Sink.written c.loop-left.err) in
    let t' = told (g.S.Source.rest c.turn.new.input) (g.O.Sink.written c.turn.new.out) (g.E.Sink.written c.turn.new.err) in
    let m = c.args.self.now in
    let left = c.loop-left.left - c.advance-left.result in
    let some : 0 < left = omega (arith, c.if-left-eq0.false) in
    let within : left ≤ c.args.steps = omega (arith, c.loop-left.invariant.within) in
    let before : c.args.steps - left < c.args.steps = omega arith in
    let s = c.advance-left.new.self.state in
    let s' = c.turn.new.self.state in
    let e = c.loop-left.ended in
    let e' = c.turn.new.ended in
    let lists : c.advance-left.new.self ≡ record m { state = s } = c.advance-left.ensures.lists ∙ ap (λ (x : Loaded). record x { state = s }) c.loop-left.invariant.lists in
    stop_runs m c.args.steps (c.args.steps - left) s s' e e' t0 t t'
    (running_down m c.args.steps c.loop-left.left c.advance-left.result c.loop-left.self.state s e t0 t
    c.loop-left.invariant.running c.advance-left.ensures.is c.advance-left.ensures.most c.loop-left.invariant.within)
    before c.loop-left.invariant.over c.turn.ensures.over c.in-Some.stop
    (turned_on m c.advance-left.new.self (Some c.in-Some.stop) s s' e e' t t' lists c.in-Some.ensures.is)

pub loop-left-preserved : goal.loop-left-preserved
loop-left-preserved g c =
    let t0 = told (g.S.Source.rest c.args.input.now) (g.O.Sink.written c.args.out.now) (g.E.Sink.written c.args.err.now) in
    let t = told (g.S.Source.rest c.loop-left.input) (g.O.Sink.written c.loop-left.out) (g.E.Sink.written c.loop-left.err) in
    let t' = told (g.S.Source.rest c.turn.new.input) (g.O.Sink.written c.turn.new.out) (g.E.Sink.written c.turn.new.err) in
    let m = c.args.self.now in
    let left = c.loop-left.left - c.advance-left.result in
    let some : 0 < left = omega (arith, c.if-left-eq0.false) in
    let within : left ≤ c.args.steps = omega (arith, c.loop-left.invariant.within) in
    let s = c.advance-left.new.self.state in
    let s' = c.turn.new.self.state in
    let e = c.loop-left.ended in
    let e' = c.turn.new.ended in
    let lists : c.advance-left.new.self ≡ record m { state = s } = c.advance-left.ensures.lists ∙ ap (λ (x : Loaded). record x { state = s }) c.loop-left.invariant.lists in
    record {
      running = running_next m c.args.steps left s s' e e' t0 t t'
          (running_down m c.args.steps c.loop-left.left c.advance-left.result c.loop-left.self.state s e t0 t
          c.loop-left.invariant.running c.advance-left.ensures.is c.advance-left.ensures.most c.loop-left.invariant.within)
          some within
          (turned_on m c.advance-left.new.self None s s' e e' t t' lists c.in_default.ensures.is);
      within = omega arith;
      lists = c.turn.ensures.lists ∙ ap (λ (x : Loaded). record x { state = s' }) lists;
      over = c.turn.ensures.over;
      counted_input = omega (arith, c.loop-left.invariant.counted_input, c.turn.ensures.counted_input);
      counted_out = omega (arith, c.loop-left.invariant.counted_out, c.turn.ensures.counted_out);
      counted_err = omega (arith, c.loop-left.invariant.counted_err, c.turn.ensures.counted_err);
    }

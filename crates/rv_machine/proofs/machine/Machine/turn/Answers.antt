-- Each event of a step, as the definition takes it.
use Rattle.std.proofs.Common.{◌≡◌, Some, List, inl, inr, ap, ◌∙◌, sym, subst}
use Rattle.rv_table.specs.State.{State}
use Rattle.rv_table.specs.Run.{Site, act}
use Rattle.rv_table.specs.declared.effect.Event.{Event}
use Rattle.rv_table.specs.declared.effect.Event.TheVariants.{System}
use Rattle.rv_machine.specs.Machine.{Loaded}
use Rattle.rv_machine.specs.Outside.{told}
use Rattle.rv_machine.specs.Checks.{check_stop}
use Rattle.rv_machine.specs.Turns.{Turned}
use Rattle.rv_machine.specs.declared.stop.Stop.{Stop}
use Rattle.rv_machine.specs.declared.stop.Stop.TheVariants.{Trapped}
use Rattle.rv_machine.proofs.Turning.{next_went, call_went, trap_finished, break_finished, system_turned}
use Rattle.rv_machine.proofs.machine.Machine.turn.Goals as goal

pub returns-in-Next-clause-is : goal.returns-in-Next-clause-is
returns-in-Next-clause-is g c =
    let t = told (g.S.Source.rest c.args.input.now) (g.O.Sink.written c.args.out.now) (g.E.Sink.written c.args.err.now) in
    let old = c.args.self.now in
    let new = c.step.new.self.state in
    elim c.in-Next.is [
      | inl e ↦ next_went old.sites old.calls old.state new c.args.ended.now t (c.step.ensures.event ∙ ap (λ (v : Event). (v, new)) e)
      | inr e ↦ call_went old.sites old.calls old.state new c.args.ended.now t (c.step.ensures.event ∙ ap (λ (v : Event). (v, new)) e)
    ]

pub returns-in-System-clause-is : goal.returns-in-System-clause-is
returns-in-System-clause-is g c =
    let old = c.args.self.now in
    let hart : c.self.inside.hart ≡ c.step.new.self.state = ap (λ (m : Loaded). m.state) c.self.view_is in
    system_turned old.sites old.calls old.state c.self.inside.hart c.system.new.self c.system.result c.args.ended.now c.system.new.ended
    (told (g.S.Source.rest c.args.input.now) (g.O.Sink.written c.args.out.now) (g.E.Sink.written c.args.err.now))
    (told (g.S.Source.rest c.system.new.input) (g.O.Sink.written c.system.new.out) (g.E.Sink.written c.system.new.err))
    (c.in-System.ensures.event ∙ ap (λ (s : State). (System, s)) (sym hart)) (hart ∙ c.in-System.ensures.stays) c.system.ensures.is

pub returns-in-Break-clause-is : goal.returns-in-Break-clause-is
returns-in-Break-clause-is g c =
    let t = told (g.S.Source.rest c.args.input.now) (g.O.Sink.written c.args.out.now) (g.E.Sink.written c.args.err.now) in
    let old = c.args.self.now in
    let new = c.step.new.self.state in
    let sites = ap (λ (m : Loaded). m.sites) c.step.ensures.lists in
    let P : Stop → Type 0 = λ r. Turned (act old.sites old.calls) (Some r) old.state new c.args.ended.now c.args.ended.now t t in
    subst P (sym (c.check.ensures ∙ ap (λ (xs : List Site). check_stop xs new) sites))
    (break_finished old.sites old.calls old.state new c.args.ended.now t c.in-Break.ensures.event c.in-Break.ensures.stays)

pub returns-in-Trap-clause-is : goal.returns-in-Trap-clause-is
returns-in-Trap-clause-is g c =
    let t = told (g.S.Source.rest c.args.input.now) (g.O.Sink.written c.args.out.now) (g.E.Sink.written c.args.err.now) in
    let old = c.args.self.now in
    let new = c.step.new.self.state in
    let hart : c.self.inside.hart ≡ c.step.new.self.state = ap (λ (m : Loaded). m.state) c.self.view_is in
    let P : Stop → Type 0 = λ r. Turned (act old.sites old.calls) (Some r) old.state new c.args.ended.now c.args.ended.now t t in
    subst P (sym (c.trap.ensures ∙ ap (λ (s : State). Trapped s.pc) hart))
    (trap_finished old.sites old.calls old.state new c.args.ended.now t c.in-Trap.ensures.event c.in-Trap.ensures.stays)

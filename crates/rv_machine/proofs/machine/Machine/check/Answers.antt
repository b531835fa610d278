-- The site that was found, and the check's number.
use Rattle.std.proofs.Common.{◌≡◌, Bool, true, false, cond, eqb, Some, ap, ◌∙◌, sym, arith}
use Rattle.std.proofs.lemmas.Bool.Decides.{nat_tests}
use Rattle.std.specs.Prelude.{slice_get}
use Rattle.odc_text.specs.Check.{number_of}
use Rattle.rv_table.specs.State.{State, register}
use Rattle.rv_machine.specs.Machine.{Loaded}
use Rattle.rv_machine.specs.Checks.{stop_at}
use Rattle.rv_machine.specs.declared.stop.Stop.TheVariants.{Checked, Trapped}
use Rattle.rv_machine.proofs.machine.Machine.check.Goals as goal

pub returns-then-from-number : goal.returns-then-from-number
returns-then-from-number c =
    let m = c.args.self.now in
    let hart : c.self.inside.hart ≡ m.state = ap (λ (x : Loaded). x.state) c.self.view_is in
    let place : c.read-site.result ≡ register m.state 11 = c.read-site.ensures ∙ ap (λ (s : State). register s 11) hart in
    let found : slice_get m.sites (register m.state 11) ≡ Some (c.in-Some.check, c.in-Some.at) = ap (slice_get m.sites) (sym place) ∙ sym c.in-Some.ensures in
    let named : number_of c.in-Some.check ≡ register m.state 10 =
    sym c.number.ensures ∙ sym c.from.ensures ∙ c.if-from-number.true ∙ c.read-number.ensures ∙ ap (λ (s : State). register s 10) hart in
    let test : eqb (number_of c.in-Some.check) (register m.state 10) ≡ true = grind (arith, nat_tests) in
    sym (ap (stop_at m.state) found ∙ ap (λ (b : Bool). cond b (Checked c.in-Some.check c.in-Some.at) (Trapped m.state.pc)) test)

pub returns-else-from-number : goal.returns-else-from-number
returns-else-from-number c =
    let m = c.args.self.now in
    let hart : c.self.inside.hart ≡ m.state = ap (λ (x : Loaded). x.state) c.self.view_is in
    let place : c.read-site.result ≡ register m.state 11 = c.read-site.ensures ∙ ap (λ (s : State). register s 11) hart in
    let found : slice_get m.sites (register m.state 11) ≡ Some (c.in-Some.check, c.in-Some.at) = ap (slice_get m.sites) (sym place) ∙ sym c.in-Some.ensures in
    let number : c.number.result ≡ number_of c.in-Some.check = c.number.ensures in
    let from : c.from.result ≡ c.number.result = c.from.ensures in
    let named : c.read-number.result ≡ register m.state 10 = c.read-number.ensures ∙ ap (λ (s : State). register s 10) hart in
    let test : eqb (number_of c.in-Some.check) (register m.state 10) ≡ false = grind (arith, nat_tests) in
    c.trap-else-from-number.ensures ∙ ap (λ (s : State). Trapped s.pc) hart
    ∙ sym (ap (stop_at m.state) found ∙ ap (λ (b : Bool). cond b (Checked c.in-Some.check c.in-Some.at) (Trapped m.state.pc)) test)

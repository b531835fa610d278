-- The range at the index that was found is read into.
use Rattle.std.proofs.Common.{◌≡◌, ℕ, Option, Result, sym, subst, ◌∙◌, set}
use Rattle.rv_table.specs.declared.effect.Access.TheVariants.{Write}
use Rattle.odc_io.specs.declared.traits.Failed.{Failed}
use Rattle.rv_machine.specs.Turns.{Fetched}
use Rattle.rv_machine.proofs.Found.{held, found_in, as_option, fetched_of, as_option_ok, as_option_err}
use Rattle.rv_machine.proofs.Fixed.{keeps_on}
use Rattle.rv_machine.proofs.memory.Memory.read_from.Goals as goal
use Rattle.rv_machine.proofs.memory.Memory.read_from.Goals.{in-Ok, in-Err}

pub read_from-requires-clause-start : goal.read_from-requires-clause-start
read_from-requires-clause-start g c = (held c.self.inside.regions.items c.args.self.now c.self.view_is Write c.args.address c.args.size c.in-Some.i c.index_mut-region.result.now c.in-Some.ensures c.index_mut-region.ensures.value).start

pub read_from-requires-clause-end : goal.read_from-requires-clause-end
read_from-requires-clause-end g c = (held c.self.inside.regions.items c.args.self.now c.self.view_is Write c.args.address c.args.size c.in-Some.i c.index_mut-region.result.now c.in-Some.ensures c.index_mut-region.ensures.value).end

pub returns-clause-is : goal.returns-clause-is
returns-clause-is g c =
    let same : c.match-read_from.result ≡ as_option c.read_from.result = elim c.match-read_from.branch [
      | in-Ok w ↦ w.result-is ∙ as_option_ok c.read_from.result _ w.in-Ok.is
      | in-Err w ↦ w.result-is ∙ as_option_err c.read_from.result _ w.in-Err.is
    ] in
    let F : Result (Option ℕ) Failed → Type 0 = λ r. Fetched c.args.address c.args.size c.args.self.now (set c.self.inside.regions.items c.in-Some.i c.read_from.new.self) (g.S.Source.rest c.args.input.now) (g.S.Source.rest c.read_from.new.input) c.args.ended.now c.read_from.new.ended r in
    subst F (sym same) (fetched_of c.self.inside.regions.items c.args.self.now c.self.view_is c.args.address c.args.size c.in-Some.i c.index_mut-region.result.now c.read_from.new.self c.in-Some.ensures c.index_mut-region.ensures.value
    (g.S.Source.rest c.args.input.now) (g.S.Source.rest c.read_from.new.input) c.args.ended.now c.read_from.new.ended c.read_from.result c.read_from.ensures.is)

pub invariant_of-self : goal.invariant_of-self
invariant_of-self g c =
    let p = found_in c.self.inside.regions.items c.args.self.now c.self.view_is Write c.args.address c.args.size c.in-Some.i c.index_mut-region.result.now c.in-Some.ensures c.index_mut-region.ensures.value in
    let h = held c.self.inside.regions.items c.args.self.now c.self.view_is Write c.args.address c.args.size c.in-Some.i c.index_mut-region.result.now c.in-Some.ensures c.index_mut-region.ensures.value in
    keeps_on c.self.inside.regions.items c.in-Some.i c.index_mut-region.result.now c.read_from.new.self p.at c.read_from.ensures.shape
    c.self.inside.apart c.self.inside.text.start c.self.inside.text.entries.items h.allowed c.self.invariant

-- A deferred statement that is itself a `defer` does what that one does.
use Rattle.std.proofs.Common.{ℕ}
use Rattle.std.specs.Prelude.{Some, ◌+◌}
use Rattle.odc_text.specs.declared.place.Place.{Place}
use Rattle.odc_program.specs.Trees.Tree as t
use Rattle.odc_program.specs.States.State as p
use Rattle.odc_program.specs.Kinds.Expressions as e
use Rattle.odc_program.specs.Runs.Source as s
use Rattle.odc_program_laws.specs.Rewriting as d
use Rattle.odc_program_laws.specs.Rewriting.{ButCost}
use Rattle.odc_program_laws.specs.Laws.{deferred_once, once, once_in}
use Rattle.odc_program_laws.proofs.Alike as a
use Rattle.odc_program_laws.proofs.Whole as u
use Rattle.odc_program_laws.proofs.Rewritten as w
use Rattle.odc_program_laws.proofs.Blind.{Stops, Same, blind, liked, calls_alike, same_fuel}

module _ (n : ℕ) (calls : p.Calls) (g : d.BlindCalls calls) (env : p.Env) where
  kind_itself : (i : t.Expr) → Same (e.base_of calls env i) (e.base_of calls env i)
  kind_itself i = u.bases w.Anywhere ButCost Stops blind calls calls (calls_alike calls g) env i (λ x m. tt)

  itself : (i : t.Stmt) (c : p.Context) → Same (s.exec n calls env i c) (s.exec n calls env i c)
  itself i c = (u.exec w.Anywhere ButCost Stops blind calls calls (calls_alike calls g) n n (same_fuel Stops n) env i (λ x m. tt)).by c

  -- one node more costs one more
  ticked : (i : t.Stmt) (c : p.Context) → Same (p.tick (s.exec n calls env i c)) (s.exec n calls env i c)
  ticked i c = record { by = λ x y h. (itself i c).by (record x { cost = x.cost + 1 }) y (record { memory = h.memory; log = h.log; input = h.input; taken = h.taken; left = h.left; serial = h.serial }) }

  in_form : (at at' : Place) (k : t.Form) (c : p.Context) → Same (s.exec n calls env (t.stmt at (t.defer (t.stmt at' k))) c) (s.exec n calls env (t.stmt at (once_in at' k)) c)
  in_form at at' (t.defer i) c = a.ticks w.Anywhere ButCost Stops blind (ticked i c)
  in_form at at' (t.declare xs v) c = itself (t.stmt at (t.defer (t.stmt at' (t.declare xs v)))) c
  in_form at at' (t.assign ls v) c = itself (t.stmt at (t.defer (t.stmt at' (t.assign ls v)))) c
  in_form at at' (t.change o x y) c = itself (t.stmt at (t.defer (t.stmt at' (t.change o x y)))) c
  in_form at at' (t.eval x) c = itself (t.stmt at (t.defer (t.stmt at' (t.eval x)))) c
  in_form at at' (t.block l body) c = itself (t.stmt at (t.defer (t.stmt at' (t.block l body)))) c
  in_form at at' (t.if_ i x body other) c = itself (t.stmt at (t.defer (t.stmt at' (t.if_ i x body other)))) c
  in_form at at' (t.loop l i x j body) c = itself (t.stmt at (t.defer (t.stmt at' (t.loop l i x j body)))) c
  in_form at at' (t.range l o x k body) c = itself (t.stmt at (t.defer (t.stmt at' (t.range l o x k body)))) c
  in_form at at' (t.switch l i x cs) c = itself (t.stmt at (t.defer (t.stmt at' (t.switch l i x cs)))) c
  in_form at at' (t.type_switch l x cs) c = itself (t.stmt at (t.defer (t.stmt at' (t.type_switch l x cs)))) c
  in_form at at' (t.return v) c = itself (t.stmt at (t.defer (t.stmt at' (t.return v)))) c
  in_form at at' (t.break_ l) c = itself (t.stmt at (t.defer (t.stmt at' (t.break_ l)))) c
  in_form at at' (t.continue_ l) c = itself (t.stmt at (t.defer (t.stmt at' (t.continue_ l)))) c
  in_form at at' t.fallthrough c = itself (t.stmt at (t.defer (t.stmt at' t.fallthrough))) c
  in_form at at' (t.counted m l x body) c = itself (t.stmt at (t.defer (t.stmt at' (t.counted m l x body)))) c

  forms : (at : Place) (k : t.Form) (c : p.Context) → Same (s.exec n calls env (t.stmt at k) c) (s.exec n calls env (t.stmt at (once k)) c)
  forms at (t.defer (t.stmt at' k)) c = in_form at at' k c
  forms at (t.declare xs v) c = itself (t.stmt at (t.declare xs v)) c
  forms at (t.assign ls v) c = itself (t.stmt at (t.assign ls v)) c
  forms at (t.change o x y) c = itself (t.stmt at (t.change o x y)) c
  forms at (t.eval x) c = itself (t.stmt at (t.eval x)) c
  forms at (t.block l body) c = itself (t.stmt at (t.block l body)) c
  forms at (t.if_ i x body other) c = itself (t.stmt at (t.if_ i x body other)) c
  forms at (t.loop l i x j body) c = itself (t.stmt at (t.loop l i x j body)) c
  forms at (t.range l o x k body) c = itself (t.stmt at (t.range l o x k body)) c
  forms at (t.switch l i x cs) c = itself (t.stmt at (t.switch l i x cs)) c
  forms at (t.type_switch l x cs) c = itself (t.stmt at (t.type_switch l x cs)) c
  forms at (t.return v) c = itself (t.stmt at (t.return v)) c
  forms at (t.break_ l) c = itself (t.stmt at (t.break_ l)) c
  forms at (t.continue_ l) c = itself (t.stmt at (t.continue_ l)) c
  forms at t.fallthrough c = itself (t.stmt at t.fallthrough) c
  forms at (t.counted m l x body) c = itself (t.stmt at (t.counted m l x body)) c

  late_itself : (i : t.Stmt) → d.AlikeLater (Some (s.exec n calls env i)) (Some (s.exec n calls env i))
  late_itself i = record { by = λ c. liked (itself i c) }

  in_later : (at : Place) (k : t.Form) → d.AlikeLater (s.later_form n calls env (t.defer (t.stmt at k))) (s.later_form n calls env (once_in at k))
  in_later at (t.defer i) = record { by = λ c. liked (ticked i c) }
  in_later at (t.declare xs v) = late_itself (t.stmt at (t.declare xs v))
  in_later at (t.assign ls v) = late_itself (t.stmt at (t.assign ls v))
  in_later at (t.change o x y) = late_itself (t.stmt at (t.change o x y))
  in_later at (t.eval x) = late_itself (t.stmt at (t.eval x))
  in_later at (t.block l body) = late_itself (t.stmt at (t.block l body))
  in_later at (t.if_ i x body other) = late_itself (t.stmt at (t.if_ i x body other))
  in_later at (t.loop l i x j body) = late_itself (t.stmt at (t.loop l i x j body))
  in_later at (t.range l o x k body) = late_itself (t.stmt at (t.range l o x k body))
  in_later at (t.switch l i x cs) = late_itself (t.stmt at (t.switch l i x cs))
  in_later at (t.type_switch l x cs) = late_itself (t.stmt at (t.type_switch l x cs))
  in_later at (t.return v) = late_itself (t.stmt at (t.return v))
  in_later at (t.break_ l) = late_itself (t.stmt at (t.break_ l))
  in_later at (t.continue_ l) = late_itself (t.stmt at (t.continue_ l))
  in_later at t.fallthrough = late_itself (t.stmt at t.fallthrough)
  in_later at (t.counted m l x body) = late_itself (t.stmt at (t.counted m l x body))

  laters : (k : t.Form) → d.AlikeLater (s.later_form n calls env k) (s.later_form n calls env (once k))
  laters (t.defer (t.stmt at k)) = in_later at k
  laters (t.declare xs v) = tt
  laters (t.assign ls v) = tt
  laters (t.change o x y) = tt
  laters (t.eval x) = tt
  laters (t.block l body) = tt
  laters (t.if_ i x body other) = tt
  laters (t.loop l i x j body) = tt
  laters (t.range l o x k body) = tt
  laters (t.switch l i x cs) = tt
  laters (t.type_switch l x cs) = tt
  laters (t.return v) = tt
  laters (t.break_ l) = tt
  laters (t.continue_ l) = tt
  laters t.fallthrough = tt
  laters (t.counted m l x body) = tt

pub kept : d.Keeps deferred_once
kept = record {
  kinds = λ calls g env ty at k. liked (kind_itself 0 calls g env (t.expr ty at k));
  forms = λ n calls g env at k. record { by = λ c. liked (forms n calls g env at k c) };
  later = λ n calls g env at k. laters n calls g env k;
}

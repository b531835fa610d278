-- The core code of a carried program keeps its source run.
use Rattle.std.proofs.Common.{◌≡◌, ℕ, zero, suc, ◌+◌, ◌-◌, ◌*◌, ◌≤◌, ◌⊎◌, inl, inr, Bool, true, false, List, [], ◌∷◌, arith, ap, ◌∙◌, sym, subst, refl}
use Rattle.std.specs.Prelude.{Option, Some, None, slice_get, if◌then◌else◌}
use Rattle.odc_text.specs.declared.check.Check.TheVariants.{Stack}
use Rattle.odc_text.specs.Run.{End, exited, checked, strayed, trapped, going, EndsAgree, HasEnded, HasStrayed, Ending, Agree}
use Rattle.odc_text.specs.Follow.{KeepsOn}
use Rattle.odc_program.specs.States.Bytes.{Block, global, literal, region, variable, Value, numbers}
use Rattle.odc_program.specs.States.Memory.{Memory, empty, open_block}
use Rattle.odc_program.specs.States.Run.{Res, ok, stop, pure}
use Rattle.odc_program.specs.States.State.{State, Leave, ends, back, Calls, Context, fail, first_context}
use Rattle.odc_program.specs.Trees.Program.{Global, Literal, Head, Body, Program}
use Rattle.odc_program.specs.Runs.Source.{execs, helps, activation, numbered, env_of, call_of, with_globals, with_literals, source, stack_end}
use Rattle.odc_program.specs.Runs.Source.{enter as source_enter, calls_of as source_calls, first_memory as source_memory, first_state as source_first, ending as source_ending}
use Rattle.odc_core.specs.Program.{first_memory}
use Rattle.odc_core.specs.Memory.{forgotten}
use Rattle.odc_core.specs.Memory.{Memory as Flat}
use Rattle.odc_core.specs.Frames.{touched_always, has_room}
use Rattle.odc_core.specs.Frames.{entered as core_entered}
use Rattle.odc_core.specs.Tree.{Proc, answer as answered, finish as done, follow as before}
use Rattle.odc_core.specs.Tree.{Stmt as CoreStmt, Stmts as CoreStmts, Whole as CoreWhole}
use Rattle.odc_core.specs.Well.{AreStmts, names_in, IsWellProc, AllWell, IsWell}
use Rattle.odc_core.specs.Run.{World, Flow, exec_all, env_in, calls_of, core, ending}
use Rattle.odc_core.specs.Run.{Env as CoreEnv, answered as word_of, pure as core_pure, then_by as onto}
use Rattle.odc_core.specs.Run.{Res as CoreRes, ok as fine, stop as halt, enter as core_enter, body_run as core_body}
use Rattle.odc_carried.specs.Code.{Around, around, join, one, begin_code, stmts_code, result_code, crossed, crossed_all, crossed_program}
use Rattle.odc_carried.specs.Tied.{IsTied, Site}
use Rattle.odc_carried.proofs.Runs.{Face, at, with_memory, Fueled}
use Rattle.odc_carried.proofs.Sims.{read, Told, Sim, Follows}
use Rattle.odc_carried.proofs.Ties.{Facts, Floor, Now}
use Rattle.odc_carried.proofs.Arguments.{CallsFollow}
use Rattle.odc_carried.proofs.Activation.{Returned}
use Rattle.odc_carried.proofs.Prints.{prints_follow}
use Rattle.odc_carried.proofs.Calls.{Good, AllGood, crossed_get, room_same, room_fits, run_sim, all_calls, site}
use Rattle.odc_carried.proofs.Starved.{Starves, statements}
use Rattle.odc_carried.proofs.Grows.{Same, enter_grows, calls_grow}

-- ---- nothing that is tied is live at first
globals_size : (n : ℕ) (gs : List Global) (m : Memory) (f serial at x : ℕ) → (with_globals n gs m).size (variable f serial at x) ≡ m.size (variable f serial at x)
globals_size n [] m f serial at x = refl
globals_size n (g ∷ gs) m f serial at x = globals_size (n + 1) gs (open_block m (global g.at n) g.first) f serial at x

literals_size : (n : ℕ) (ls : List Literal) (m : Memory) (f serial at x : ℕ) → (with_literals n ls m).size (variable f serial at x) ≡ m.size (variable f serial at x)
literals_size n [] m f serial at x = refl
literals_size n (l ∷ ls) m f serial at x = literals_size (n + 1) ls (open_block m (literal l.at n) (numbers l.bytes)) f serial at x

none_live : {X : Type 0} (P : Program) (b : Block) (s : ℕ) → IsTied b → (source_memory P).size b ≡ Some s → X
none_live {X} P (variable f serial at x) s tied e =
    let none : (source_memory P).size (variable f serial at x) ≡ None =
    literals_size 0 P.tables.literals (with_globals 0 P.tables.globals empty) f serial at x ∙ globals_size 0 P.tables.globals empty f serial at x in
    absurd (cc)
none_live P (global at n) s tied e = absurd tied
none_live P (literal at n) s tied e = absurd tied
none_live P (region at n) s tied e = absurd tied

-- ---- ends
strays_back : (e e' : End) → EndsAgree e e' → HasStrayed e' → HasStrayed e
strays_back (strayed at) e' a h = tt
strays_back (exited code) (strayed at) a h = absurd a
strays_back (exited code) (exited c) a h = absurd h
strays_back (exited code) (checked which p) a h = absurd h
strays_back (exited code) (trapped pc) a h = absurd h
strays_back (exited code) going a h = absurd h
strays_back (checked which p) (strayed at) a h = absurd a
strays_back (checked which p) (exited c) a h = absurd h
strays_back (checked which p) (checked which' p') a h = absurd h
strays_back (checked which p) (trapped pc) a h = absurd h
strays_back (checked which p) going a h = absurd h
strays_back (trapped pc) (strayed at) a h = absurd a
strays_back (trapped pc) (exited c) a h = absurd h
strays_back (trapped pc) (checked which' p') a h = absurd h
strays_back (trapped pc) (trapped pc') a h = absurd h
strays_back (trapped pc) going a h = absurd h
strays_back going (strayed at) a h = absurd a
strays_back going (exited c) a h = absurd h
strays_back going (checked which' p') a h = absurd h
strays_back going (trapped pc') a h = absurd h
strays_back going going a h = absurd h

strays_on : (r q : CoreRes ℕ) (d : ℕ) → Same r d q → HasStrayed (ending r).end → HasStrayed (ending q).end
strays_on (fine v s) q d e h = absurd h
strays_on (halt (exited code) s) q d e h = absurd h
strays_on (halt (checked which at) s) q d e h = absurd h
strays_on (halt (strayed at) s) q d e h = subst (λ (x : CoreRes ℕ). HasStrayed (ending x).end) (sym e) tt
strays_on (halt (trapped pc) s) q d e h = absurd h
strays_on (halt going s) q d e h = absurd h

-- ---- with nothing left of the bound, core code does nothing
full : (a : CoreStmts) (s : CoreStmt) → (t : CoreStmt) × (ts : CoreStmts) × (join a (one s) ≡ before t ts)
full done s = (s, done, refl)
full (before t a) s = (t, join a (one s), refl)

full_body : (a b : CoreStmts) (s : CoreStmt) → (t : CoreStmt) × (ts : CoreStmts) × (join a (join b (one s)) ≡ before t ts)
full_body done b s = full b s
full_body (before t a) b s = (t, join a (join b (one s)), refl)

well_at : (w : CoreWhole) (ps : List Proc) (f : ℕ) (p : Proc) → AllWell w ps → slice_get ps f ≡ Some p → IsWellProc w p
well_at w [] f p h e = absurd (cc)
well_at w (x ∷ ps) zero p h e = let is : x ≡ p = cc in subst (IsWellProc w) is h.0
well_at w (x ∷ ps) (suc f) p h e = well_at w ps f p h.1 e

module _ (entries : ℕ → ℕ) (P : Program) (good : AllGood P.tables P.tables.procedures P.bodies) (well : IsWell (crossed_program P)) (input : List ℕ) where
  abbrev world : World
  world = record { entries = entries; procedures = crossed_all P.tables P.tables.procedures P.bodies; addresses = [] }

  abbrev start : Face
  start = record { memory = first_memory [] 0; log = []; input = input; taken = 0 }

  -- the source run, and the core run, of a procedure as `main`
  abbrev source_of : Option Head → Option Body → ℕ → Res Leave State Value
  source_of o q n = source_enter n (source_calls P n) P.tables P.main o q [] (Some (first_context P.tables)) stack_end (source_first P input n)

  abbrev core_of : Option Proc → ℕ → CoreRes ℕ
  core_of o m = core_enter world m (calls_of world m) o [] (touched_always 0) stack_end (at start m 0)

  module _ (p : Head) (q : Body) (is_p : slice_get P.tables.procedures P.main ≡ Some p) (is_q : slice_get P.bodies P.main ≡ Some q) (main : p.parameters ≡ 0) where
    abbrev run : ℕ → CoreRes ℕ
    run m = core_of (Some (crossed P.tables p q)) m

    -- with no bound its body stands at its begin
    record Idle (act : Fueled ℕ) : Type 0 where
      pub memory : Flat
      pub is : act 0 (at start 0 0) ≡ halt going (at (with_memory start memory) 0 0)

    idle : Idle (λ i. core_body world i (calls_of world i) (crossed P.tables p q) [] (touched_always 0) stack_end)
    idle =
        let c : Proc = crossed P.tables p q in
        let w : IsWellProc (crossed_program P) c = well_at (crossed_program P) (crossed_program P).procedures P.main c well.procedures (crossed_get P.tables P.tables.procedures P.bodies P.main p q is_p is_q) in
        let o : Around = around P.tables p q in
        let f = full_body (begin_code o o.results) (stmts_code o q.stmts) (answered (result_code o o.results)) in
        let env : CoreEnv = env_in world c (touched_always 0) stack_end in
        let m : Flat = core_entered (stack_end - c.frame) c.frame c.variables [] start.memory in
        let body : AreStmts (names_in (crossed_program P) c) 0 (before f.0 f.1) = subst (AreStmts (names_in (crossed_program P) c) 0) f.2 w.body in
        let starves : Starves (exec_all 0 (calls_of world 0) env (before f.0 f.1)) = statements world env (names_in (crossed_program P) c) refl refl f.0 f.1 body in
        record {
          memory = m;
          is = ap (λ (b : CoreStmts). onto (exec_all 0 (calls_of world 0) env b (at (with_memory start m) 0 0)) (λ flow. core_pure (word_of flow))) f.2
              ∙ ap (λ (r : CoreRes Flow). onto r (λ flow. core_pure (word_of flow))) (starves.by (at (with_memory start m) 0 0) refl);
        }

    record Meets (n : ℕ) (r : Res Leave State Value) : Type 0 where
      pub budget : ℕ
      pub there : Agree (read entries) (source_ending r) (ending (run budget))
      pub kind : (HasStrayed (source_ending r).end → ⊥) → ((m k : ℕ) → m ≡ k + budget → Agree (read entries) (source_ending r) (ending (run m))) ⊎ (n ≤ budget)
      pub cheap : HasEnded (source_ending r).end → (ending (run budget)).cost ≤ 64 * (source_ending r).cost + 8

    module _ (act : Fueled ℕ) (acts : (m : ℕ) → run m ≡ act m (at start m 0)) (idles : Idle act) (n : ℕ) (s : State) (begins : s.cost ≡ 0) (left : s.left ≡ n) where
      met : (R : Value → State → ℕ → Face → Type 0) (r : Res Leave State Value) → Follows entries R 0 8 0 act s start r → Meets n r
      met R (ok v t) x =
          let is : (m k : ℕ) → m ≡ k + x.budget → run m ≡ fine x.word (at x.face k (0 + x.cost)) =
          λ m k e. ap run e ∙ acts (k + x.budget) ∙ x.runs.is (k + x.budget) k 0 (omega arith) in
          let agrees : (m k : ℕ) → m ≡ k + x.budget → Agree (read entries) (source_ending (ok v t)) (ending (run m)) =
          λ m k e. subst (λ (z : CoreRes ℕ). Agree (read entries) (source_ending (ok v t)) (ending z)) (sym (is m k e)) (record { ends = refl; logs = x.told.logs; taken = x.told.taken }) in
          record {
            budget = x.budget;
            there = agrees x.budget 0 (omega arith);
            kind = λ steady. inl agrees;
            cheap = λ h. subst (λ (z : CoreRes ℕ). (ending z).cost ≤ 64 * t.cost + 8) (sym (is x.budget 0 (omega arith))) (omega (arith, x.cheap, begins));
          }
      met R (stop (ends (checked which place)) t) x =
          let is : (m k : ℕ) → m ≡ k + x.budget → run m ≡ halt (checked which place) (at x.face k (0 + x.cost)) =
          λ m k e. ap run e ∙ acts (k + x.budget) ∙ x.is (k + x.budget) k 0 (omega arith) in
          let agrees : (m k : ℕ) → m ≡ k + x.budget → Agree (read entries) (source_ending (stop (ends (checked which place)) t)) (ending (run m)) =
          λ m k e. subst (λ (z : CoreRes ℕ). Agree (read entries) (source_ending (stop (ends (checked which place)) t)) (ending z)) (sym (is m k e)) (record { ends = (refl, refl); logs = x.told.logs; taken = x.told.taken }) in
          record {
            budget = x.budget;
            there = agrees x.budget 0 (omega arith);
            kind = λ steady. inl agrees;
            cheap = λ h. subst (λ (z : CoreRes ℕ). (ending z).cost ≤ 64 * t.cost + 8) (sym (is x.budget 0 (omega arith))) (omega (arith, x.cheap, begins));
          }
      met R (stop (ends (exited code)) t) x =
          let is : (m k : ℕ) → m ≡ k + x.budget → run m ≡ halt (exited code) (at x.face k (0 + x.cost)) =
          λ m k e. ap run e ∙ acts (k + x.budget) ∙ x.is (k + x.budget) k 0 (omega arith) in
          let agrees : (m k : ℕ) → m ≡ k + x.budget → Agree (read entries) (source_ending (stop (ends (exited code)) t)) (ending (run m)) =
          λ m k e. subst (λ (z : CoreRes ℕ). Agree (read entries) (source_ending (stop (ends (exited code)) t)) (ending z)) (sym (is m k e)) (record { ends = refl; logs = x.told.logs; taken = x.told.taken }) in
          record {
            budget = x.budget;
            there = agrees x.budget 0 (omega arith);
            kind = λ steady. inl agrees;
            cheap = λ h. subst (λ (z : CoreRes ℕ). (ending z).cost ≤ 64 * t.cost + 8) (sym (is x.budget 0 (omega arith))) (omega (arith, x.cheap, begins));
          }
      met R (stop (ends going) t) x =
          let z = x.pause in
          let is : run z.budget ≡ halt going (at z.face 0 (0 + z.cost)) = acts z.budget ∙ z.is z.budget 0 (omega arith) in
          record {
            budget = z.budget;
            there = subst (λ (y : CoreRes ℕ). Agree (read entries) (source_ending (stop (ends going) t)) (ending y)) (sym is) (record { ends = tt; logs = z.told.logs; taken = z.told.taken });
            kind = λ steady. inr (omega (arith, x.late, left));
            cheap = λ h. absurd h;
          }
      met R (stop (ends (strayed place)) t) (inl z) =
          let is : run z.budget ≡ halt going (at z.face 0 (0 + z.cost)) = acts z.budget ∙ z.is z.budget 0 (omega arith) in
          record {
            budget = z.budget;
            there = subst (λ (y : CoreRes ℕ). Agree (read entries) (source_ending (stop (ends (strayed place)) t)) (ending y)) (sym is) (record { ends = tt; logs = z.told.logs; taken = z.told.taken });
            kind = λ steady. absurd (steady tt);
            cheap = λ h. absurd h;
          }
      met R (stop (ends (strayed place)) t) (inr told) = record {
        budget = 0;
        there = subst (λ (y : CoreRes ℕ). Agree (read entries) (source_ending (stop (ends (strayed place)) t)) (ending y)) (sym (acts 0 ∙ idles.is)) (record { ends = tt; logs = told.logs; taken = told.taken });
        kind = λ steady. absurd (steady tt);
        cheap = λ h. absurd h;
      }
      met R (stop (ends (trapped pc)) t) x = absurd x
      met R (stop back t) x = absurd x

    meets : (n : ℕ) (b : Bool) → has_room stack_end p.frame ≡ b → Meets n (source_of (Some p) (Some q) n)
    meets n false e =
        let s : State = source_first P input n in
        let calls : Calls = record { call = call_of P n; help = helps n q.helpers } in
        let c : Context = Some (first_context P.tables) in
        let K : Bool → Type 0 = λ b. Meets n ((if b then numbered (λ serial. activation (execs n calls (env_of P.tables p P.main serial (stack_end - p.frame) c) q.stmts) [] (env_of P.tables p P.main serial (stack_end - p.frame) c)) else fail Stack p.at) s) in
        let is : (m : ℕ) → run m ≡ halt (checked Stack p.at) (at start m 0) =
        λ m. ap (λ (b : Bool). (if b then core_body world m (calls_of world m) (crossed P.tables p q) [] (touched_always 0) stack_end else (λ t. halt (checked Stack p.at) t)) (at start m 0)) e in
        let r : Res Leave State Value = stop (ends (checked Stack p.at)) s in
        let agrees : (m : ℕ) → Agree (read entries) (source_ending r) (ending (run m)) =
        λ m. subst (λ (z : CoreRes ℕ). Agree (read entries) (source_ending r) (ending z)) (sym (is m)) (record { ends = (refl, refl); logs = refl; taken = refl }) in
        subst K (sym (room_same stack_end p.frame (omega arith) ∙ e))
        (record {
          budget = 0;
          there = agrees 0;
          kind = λ steady. inl (λ m k f. agrees m);
          cheap = λ h. subst (λ (z : CoreRes ℕ). (ending z).cost ≤ 64 * 0 + 8) (sym (is 0)) (omega arith);
        })
    meets n true e =
        let s : State = source_first P input n in
        let s1 : State = record s { serial = 1 } in
        let c : Context = Some (first_context P.tables) in
        let calls : Calls = record { call = call_of P n; help = helps n q.helpers } in
        let low : 0x7800_0000 + p.frame ≤ stack_end = room_fits stack_end p.frame e in
        let S : Site = site prints_follow entries P good n P.main p q 0 (stack_end - p.frame) (source_memory P) (touched_always 0) in
        let g : Good P.tables p q = good.good P.main p q is_p is_q in
        let floor : Floor (stack_end - p.frame) p.frame 0 (source_memory P) = record { above = λ b z tied x. none_live P b z tied x; older = λ b z tied x. none_live P b z tied x } in
        let F : Facts S = record { laid = g.laid; room = g.room; floor = floor; bottom = omega (arith, low); top = omega (arith, low) } in
        let follows : CallsFollow S F (λ g vs c low. calls.call g (pure tt) vs c low) = all_calls prints_follow entries P good n P.main p q 0 (stack_end - p.frame) (source_memory P) (touched_always 0) F in
        let now : Now S (source_memory P) 1 (forgotten start.memory (stack_end - p.frame) p.frame) =
        record { tied = record { byte = λ b z tied x. none_live P b z tied x; sane = λ b z tied x. none_live P b z tied x }; since = λ b z tied x. none_live P b z tied x; kept = λ b z tied x. x; fresh = λ b z tied x. none_live P b z tied x } in
        let told : Told entries s1 start = record { logs = refl; input = refl; taken = refl } in
        let A : Value → State → ℕ → Face → Type 0 = Returned S F start in
        let act : Fueled ℕ = λ i. core_body world i (calls_of world i) (crossed P.tables p q) [] (touched_always 0) stack_end in
        let r : Res Leave State Value = activation (execs n calls (env_of P.tables p P.main 0 (stack_end - p.frame) c) q.stmts) [] (env_of P.tables p P.main 0 (stack_end - p.frame) c) s1 in
        let sim : Sim entries A 0 8 0 act s1 start r =
        run_sim prints_follow entries P good n P.main p q 0 stack_end (source_memory P) (touched_always 0) low is_p is_q F calls follows 0 c [] [] s1 start tt (sym main) (omega arith) (omega arith) told now in
        let acts : (m : ℕ) → run m ≡ act m (at start m 0) =
        λ m. ap (λ (b : Bool). (if b then act m else (λ t. halt (checked Stack p.at) t)) (at start m 0)) e in
        let run_by : Bool → Res Leave State Value = λ b. (if b then numbered (λ serial. activation (execs n calls (env_of P.tables p P.main serial (stack_end - p.frame) c) q.stmts) [] (env_of P.tables p P.main serial (stack_end - p.frame) c)) else fail Stack p.at) s in
        let room = room_same stack_end p.frame (omega arith) ∙ e in
        subst (λ (x : Res Leave State Value). Meets n x) (sym (ap run_by room)) (met act acts idle n s1 refl refl A r sim.by)

    abbrev there_at : (n : ℕ) → Meets n (source_of (Some p) (Some q) n)
    there_at n = meets n (has_room stack_end p.frame) refl

    -- past each bound of the core run
    beyond : (m n : ℕ) → (HasStrayed (source_ending (source_of (Some p) (Some q) n)).end → ⊥) → m ≤ n → (m' : ℕ) × (m ≤ m') × Agree (read entries) (source_ending (source_of (Some p) (Some q) n)) (ending (run m'))
    beyond m n steady reached =
        let x : Meets n (source_of (Some p) (Some q) n) = there_at n in
        elim (x.kind steady) [
          | inl on ↦ (m + x.budget, omega arith, on (m + x.budget) m refl)
          | inr late ↦ (x.budget, omega (arith, late, reached), x.there)
        ]

    strayed_then : (m m' : ℕ) → m ≤ m' → HasStrayed (ending (run m)).end → HasStrayed (ending (run m')).end
    strayed_then m m' le h =
        let d : ℕ = m' - m in
        let sum : m + d ≡ m' = omega (arith, le) in
        let more : m ≤ m + d = omega arith in
        let later : HasStrayed (ending (run (m + d))).end =
        strays_on (run m) (run (m + d)) d ((enter_grows world m (m + d) more (calls_of world m) (calls_of world (m + d)) (calls_grow world m (m + d) more) (Some (crossed P.tables p q)) [] (touched_always 0) stack_end).by (at start m 0) d) h in
        subst (λ (k : ℕ). HasStrayed (ending (run k)).end) sum later

    keeps_main : KeepsOn 64 8 (read entries) (λ i n. source_ending (source_enter n (source_calls P n) P.tables P.main (Some p) (Some q) [] (Some (first_context P.tables)) stack_end (source_first P i n)))
        (λ i m. ending (core_enter world m (calls_of world m) (Some (crossed P.tables p q)) [] (touched_always 0) stack_end (at (record start { input = i }) m 0))) input
    keeps_main = record {
      goes = λ n. ((there_at n).budget, (there_at n).there);
      far = λ steady m. (m, λ n reached. beyond m n (steady n) reached);
      sound = λ steady m strays.
          let on = beyond m m (steady m) (omega arith) in
          steady m (strays_back (source_ending (source_of (Some p) (Some q) m)).end (ending (run on.0)).end on.2.ends (strayed_then m on.0 on.1 strays));
      cheap = λ n ended. ((there_at n).budget, (there_at n).there, (there_at n).cheap ended);
    }

-- on every input, at 64 times its cost and a little more
pub keeps : (entries : ℕ → ℕ) (P : Program) → AllGood P.tables P.tables.procedures P.bodies → IsWell (crossed_program P) → (p : Head) (q : Body) → slice_get P.tables.procedures P.main ≡ Some p → slice_get P.bodies P.main ≡ Some q → p.parameters ≡ 0 →
    (input : List ℕ) → KeepsOn 64 8 (read entries) (source P) (core entries (crossed_program P)) input
keeps entries P good well p q is_p is_q main input =
    let world : World = record { entries = entries; procedures = crossed_all P.tables P.tables.procedures P.bodies; addresses = [] } in
    let c : Context = Some (first_context P.tables) in
    let core_by : Option Proc → List ℕ → ℕ → Ending ℕ ℕ = λ o i m. ending (core_enter world m (calls_of world m) o [] (touched_always 0) stack_end (at (record { memory = first_memory [] 0; log = []; input = i; taken = 0 }) m 0)) in
    let S : Option Head → Option Body → Type 0 = λ o b. KeepsOn 64 8 (read entries) (λ i n. source_ending (source_enter n (source_calls P n) P.tables P.main o b [] c stack_end (source_first P i n))) (core entries (crossed_program P)) input in
    let C : Option Proc → Type 0 = λ o. KeepsOn 64 8 (read entries) (λ i n. source_ending (source_enter n (source_calls P n) P.tables P.main (Some p) (Some q) [] c stack_end (source_first P i n))) (core_by o) input in
    let whole : S (Some p) (Some q) = subst C (sym (crossed_get P.tables P.tables.procedures P.bodies P.main p q is_p is_q)) (keeps_main entries P good well input p q is_p is_q main) in
    subst (λ (o : Option Head). S o (slice_get P.bodies P.main)) (sym is_p) (subst (λ (b : Option Body). S (Some p) b) (sym is_q) whole)

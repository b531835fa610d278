-- The core code of a well program keeps its source run.
use Rattle.std.proofs.Common.{◌≡◌, ℕ, ◌+◌, ◌-◌, ◌*◌, ◌≤◌, ◌⊎◌, inl, inr, Bool, true, false, List, [], map, arith, ap, ◌∙◌, sym, subst, refl}
use Rattle.std.specs.Prelude.{Option, Some, None, slice_get, if◌then◌else◌}
use Rattle.odc_text.specs.declared.check.Check.TheVariants.{Stack}
use Rattle.odc_text.specs.Run.{End, exited, checked, strayed, trapped, going, EndsAgree, HasEnded, HasStrayed, Agree}
use Rattle.odc_text.specs.Follow.{KeepsOn}
use Rattle.odc_typed.specs.Tree.{Proc, Whole}
use Rattle.odc_typed.specs.Bytes.{Block, Value}
use Rattle.odc_typed.specs.Memory.{empty}
use Rattle.odc_typed.specs.Frame.{frame}
use Rattle.odc_typed.specs.Well.{signatures, IsWell, IsMain}
use Rattle.odc_typed.specs.Source.{State, Res, ok, stop, Env, env_of, body_run, numbered, enter as source_enter, calls_of as source_calls, first_state as source_first, ending as source_ending, source}
use Rattle.odc_core.specs.Memory.{Memory}
use Rattle.odc_core.specs.Program.{first_memory}
use Rattle.odc_core.specs.Frames.{stack_end, touched_always, has_room}
use Rattle.odc_core.specs.Tree.{Proc as CoreProc}
use Rattle.odc_core.specs.Run.{World, calls_of, core, ending}
use Rattle.odc_core.specs.Run.{State as CoreState, Res as CoreRes, ok as fine, stop as halt, enter as core_enter, body_run as core_body}
use Rattle.odc_context.specs.Code.{Own, own_of, crossed, crossed_program}
use Rattle.odc_context.proofs.Runs.{Fueled, from, to}
use Rattle.odc_context.proofs.Sims.{read, Sim, Follows}
use Rattle.odc_context.proofs.Ties.{Floor, Tied}
use Rattle.odc_context.proofs.simulation.Exprs.{Fits}
use Rattle.odc_context.proofs.simulation.Nodes.{CallsFollow}
use Rattle.odc_context.proofs.Procs.{frame_fits}
use Rattle.odc_context.proofs.Activation.{Returned, activation_sim}
use Rattle.odc_context.proofs.Calls.{mapped_get, well_at, room_same, room_fits, all_calls}
use Rattle.odc_context.proofs.Grows.{Same, enter_grows, calls_grow}

strays_back : (e e' : End) → EndsAgree e e' → HasStrayed e' → HasStrayed e
strays_back (strayed at) e' a h = tt
strays_back (exited code) (strayed at) a h = absurd a
strays_back (exited code) (exited c) a h = absurd h
strays_back (exited code) (checked which p) a h = absurd h
strays_back (exited code) (trapped pc) a h = absurd h
strays_back (exited code) going a h = absurd h
strays_back (checked which p) (strayed at) a h = absurd a
strays_back (checked which p) (exited c) a h = absurd h
strays_back (checked which p) (checked which' p') a h = absurd h
strays_back (checked which p) (trapped pc) a h = absurd h
strays_back (checked which p) going a h = absurd h
strays_back (trapped pc) (strayed at) a h = absurd a
strays_back (trapped pc) (exited c) a h = absurd h
strays_back (trapped pc) (checked which' p') a h = absurd h
strays_back (trapped pc) (trapped pc') a h = absurd h
strays_back (trapped pc) going a h = absurd h
strays_back going (strayed at) a h = absurd a
strays_back going (exited c) a h = absurd h
strays_back going (checked which' p') a h = absurd h
strays_back going (trapped pc') a h = absurd h
strays_back going going a h = absurd h

strays_on : (r q : CoreRes ℕ) (d : ℕ) → Same r d q → HasStrayed (ending r).end → HasStrayed (ending q).end
strays_on (fine v s) q d e h = absurd h
strays_on (halt (exited code) s) q d e h = absurd h
strays_on (halt (checked which at) s) q d e h = absurd h
strays_on (halt (strayed at) s) q d e h = subst (λ (x : CoreRes ℕ). HasStrayed (ending x).end) (sym e) tt
strays_on (halt (trapped pc) s) q d e h = absurd h
strays_on (halt going s) q d e h = absurd h

module _ (entries : ℕ → ℕ) (w : Whole) (well : IsWell w) (input : List ℕ) where
  abbrev ps : List Proc
  ps = w.procedures

  abbrev world : World
  world = record { entries = entries; procedures = map crossed ps; addresses = [] }

  abbrev first_flat : Memory
  first_flat = first_memory [] 0

  abbrev start : CoreState
  start = record { memory = first_flat; log = []; input = input; taken = 0; left = 0; cost = 0 }

  -- the source run, and the core run, of a procedure as `main`
  abbrev source_of : Option Proc → ℕ → Res Value
  source_of o n = source_enter n (source_calls ps n) o [] stack_end (source_first input n)

  abbrev core_of : Option CoreProc → ℕ → CoreRes ℕ
  core_of o m = core_enter world m (calls_of world m) o [] (touched_always 0) stack_end (from start first_flat [] m)

  module _ (p : Proc) (found : slice_get ps w.main ≡ Some p) (main : IsMain (Some p)) where
    abbrev run : ℕ → CoreRes ℕ
    run m = core_of (Some (crossed p)) m

    record Meets (n : ℕ) (r : Res Value) : Type 0 where
      pub budget : ℕ
      pub there : Agree (read entries) (source_ending r) (ending (run budget))
      pub kind : ((m k : ℕ) → m ≡ k + budget → Agree (read entries) (source_ending r) (ending (run m))) ⊎ (n ≤ budget)
      pub cheap : HasEnded (source_ending r).end → (ending (run budget)).cost ≤ 100 * (source_ending r).cost + 0

    module _ (act : Fueled ℕ) (acts : (m : ℕ) → run m ≡ act m (from start first_flat [] m)) (n : ℕ) (s : State) (begins : s.cost ≡ 0) (untaken : s.taken ≡ 0) (left : s.left ≡ n) where
      met : (R : Value → State → ℕ → Memory → Type 0) (r : Res Value) → Follows entries R 0 0 0 act s first_flat [] r → Meets n r
      met R (ok v t) x =
          let is : (m k : ℕ) → m ≡ k + x.budget → run m ≡ fine x.word (to start x.memory x.log k x.cost) =
          λ m k e. ap run e ∙ acts (k + x.budget) ∙ x.runs.is (k + x.budget) k start (omega arith) in
          let agrees : (m k : ℕ) → m ≡ k + x.budget → Agree (read entries) (source_ending (ok v t)) (ending (run m)) =
          λ m k e. subst (λ (q : CoreRes ℕ). Agree (read entries) (source_ending (ok v t)) (ending q)) (sym (is m k e)) (record { ends = refl; logs = x.logs; taken = x.taken ∙ untaken }) in
          record {
            budget = x.budget;
            there = agrees x.budget 0 (omega arith);
            kind = inl agrees;
            cheap = λ h. subst (λ (q : CoreRes ℕ). (ending q).cost ≤ 100 * t.cost + 0) (sym (is x.budget 0 (omega arith))) (omega (arith, x.cheap, begins));
          }
      met R (stop (checked which at) t) x =
          let is : (m k : ℕ) → m ≡ k + x.budget → run m ≡ halt (checked which at) (to start x.memory x.log k x.cost) =
          λ m k e. ap run e ∙ acts (k + x.budget) ∙ x.is (k + x.budget) k start (omega arith) in
          let agrees : (m k : ℕ) → m ≡ k + x.budget → Agree (read entries) (source_ending (stop (checked which at) t)) (ending (run m)) =
          λ m k e. subst (λ (q : CoreRes ℕ). Agree (read entries) (source_ending (stop (checked which at) t)) (ending q)) (sym (is m k e)) (record { ends = (refl, refl); logs = x.logs; taken = x.taken ∙ untaken }) in
          record {
            budget = x.budget;
            there = agrees x.budget 0 (omega arith);
            kind = inl agrees;
            cheap = λ h. subst (λ (q : CoreRes ℕ). (ending q).cost ≤ 100 * t.cost + 0) (sym (is x.budget 0 (omega arith))) (omega (arith, x.cheap, begins));
          }
      met R (stop going t) x =
          let is : run x.budget ≡ halt going (to start x.memory x.log 0 x.cost) = acts x.budget ∙ x.is x.budget start (omega arith) in
          record {
            budget = x.budget;
            there = subst (λ (q : CoreRes ℕ). Agree (read entries) (source_ending (stop going t)) (ending q)) (sym is) (record { ends = tt; logs = x.logs; taken = x.taken ∙ untaken });
            kind = inr (omega (arith, x.late, left));
            cheap = λ h. absurd h;
          }
      met R (stop (exited code) t) x = absurd x
      met R (stop (strayed at) t) x = absurd x
      met R (stop (trapped pc) t) x = absurd x

    meets : (n : ℕ) (b : Bool) → has_room stack_end (frame p) ≡ b → Meets n (source_of (Some p) n)
    meets n false e =
        let s : State = source_first input n in
        let P : Bool → Type 0 = λ b. Meets n ((if b then numbered (λ serial. body_run n (source_calls ps n) p [] (env_of p stack_end serial)) else (λ t. stop (checked Stack p.at) t)) s) in
        let is : (m : ℕ) → run m ≡ halt (checked Stack p.at) (from start first_flat [] m) =
        λ m. ap (λ (b : Bool). (if b then core_body world m (calls_of world m) (crossed p) [] (touched_always 0) stack_end else (λ t. halt (checked Stack p.at) t)) (from start first_flat [] m)) e in
        let agrees : (m : ℕ) → Agree (read entries) (source_ending (let r : Res Value = stop (checked Stack p.at) s in r)) (ending (run m)) =
        λ m. subst (λ (q : CoreRes ℕ). Agree (read entries) (source_ending (stop (checked Stack p.at) s)) (ending q)) (sym (is m)) (record { ends = (refl, refl); logs = refl; taken = refl }) in
        subst P (sym (room_same stack_end (frame p) (omega arith) ∙ e))
        (record {
          budget = 0;
          there = agrees 0;
          kind = inl (λ m k f. agrees m);
          cheap = λ h. subst (λ (q : CoreRes ℕ). (ending q).cost ≤ 100 * 0 + 0) (sym (is 0)) (omega arith);
        })
    meets n true e =
        let s : State = source_first input n in
        let s1 : State = record s { serial = 1 } in
        let low : 0x7800_0000 + frame p ≤ stack_end = room_fits stack_end (frame p) e in
        let env : Env = env_of p stack_end 0 in
        let o : Own = own_of p in
        let fits : Fits (stack_end - frame p) (frame p) o = frame_fits p stack_end low (omega arith) in
        let floor : Floor env (frame p) empty = record { above = λ b q x. none_live b q x; older = λ b q x. none_live b q x } in
        let tied : Tied env o.first empty empty 1 first_flat = record { words = λ b q x. none_live b q x; since = λ b q x. none_live b q x; kept = λ b q x. x; fresh = λ b q x. none_live b q x } in
        let follows : CallsFollow entries n world p.at o env (frame p) empty (touched_always 0) fits floor (signatures ps) (source_calls ps n) =
        all_calls entries ps well.procedures n p.at o env (frame p) empty (touched_always 0) fits floor in
        let A : Value → State → ℕ → Memory → Type 0 = Returned entries n world (signatures ps) p stack_end 0 empty (touched_always 0) fits floor (omega (arith, low)) (source_calls ps n) follows (well_at (signatures ps) ps w.main p well.procedures found) first_flat in
        let act : Fueled ℕ = λ i. core_body world i (calls_of world i) (crossed p) [] (touched_always 0) stack_end in
        let r : Res Value = body_run n (source_calls ps n) p [] env s1 in
        let sim : Sim entries A 0 0 0 act s1 first_flat [] r =
        activation_sim entries n world (signatures ps) p stack_end 0 empty (touched_always 0) fits floor (omega (arith, low)) (source_calls ps n) follows (well_at (signatures ps) ps w.main p well.procedures found)
        0 s1 first_flat [] [] tt (sym main.0) tied (λ b q x. x) (omega arith) (omega arith) refl in
        let acts : (m : ℕ) → run m ≡ act m (from start first_flat [] m) =
        λ m. ap (λ (b : Bool). (if b then act m else (λ t. halt (checked Stack p.at) t)) (from start first_flat [] m)) e in
        let P : Bool → Type 0 = λ b. Meets n ((if b then numbered (λ serial. body_run n (source_calls ps n) p [] (env_of p stack_end serial)) else (λ t. stop (checked Stack p.at) t)) s) in
        subst P (sym (room_same stack_end (frame p) (omega arith) ∙ e)) (met act acts n s1 refl refl refl A r sim.by)
      where
        none_live : {X : Type 0} (b : Block) (q : ℕ) → empty.size b ≡ Some q → X
        none_live b q x = absurd (cc)

    abbrev at : (n : ℕ) → Meets n (source_of (Some p) n)
    at n = meets n (has_room stack_end (frame p)) refl

    -- past each bound of the core run
    beyond : (m n : ℕ) → m ≤ n → (m' : ℕ) × (m ≤ m') × Agree (read entries) (source_ending (source_of (Some p) n)) (ending (run m'))
    beyond m n reached =
        let x : Meets n (source_of (Some p) n) = at n in
        elim x.kind [
          | inl on ↦ (m + x.budget, omega arith, on (m + x.budget) m refl)
          | inr late ↦ (x.budget, omega (arith, late, reached), x.there)
        ]

    strayed_then : (m m' : ℕ) → m ≤ m' → HasStrayed (ending (run m)).end → HasStrayed (ending (run m')).end
    strayed_then m m' le h =
        let d : ℕ = m' - m in
        let sum : m + d ≡ m' = omega (arith, le) in
        let more : m ≤ m + d = omega arith in
        let later : HasStrayed (ending (run (m + d))).end =
        strays_on (run m) (run (m + d)) d ((enter_grows world m (m + d) more (calls_of world m) (calls_of world (m + d)) (calls_grow world m (m + d) more) (Some (crossed p)) [] (touched_always 0) stack_end).by (from start first_flat [] m) d) h in
        subst (λ (k : ℕ). HasStrayed (ending (run k)).end) sum later

    keeps_main : KeepsOn 100 0 (read entries) (λ i n. source_ending (source_enter n (source_calls ps n) (Some p) [] stack_end (source_first i n)))
        (λ i m. ending (core_enter world m (calls_of world m) (Some (crossed p)) [] (touched_always 0) stack_end (record start { input = i; left = m }))) input
    keeps_main = record {
      goes = λ n. ((at n).budget, (at n).there);
      far = λ never m. (m, λ n reached. beyond m n reached);
      sound = λ never m strays.
          let on = beyond m m (omega arith) in
          never m (strays_back (source_ending (source_of (Some p) m)).end (ending (run on.0)).end on.2.ends (strayed_then m on.0 on.1 strays));
      cheap = λ n ended. ((at n).budget, (at n).there, (at n).cheap ended);
    }

-- on every input, at a hundred times the source's cost
pub keeps : (entries : ℕ → ℕ) (w : Whole) → IsWell w → (input : List ℕ) → KeepsOn 100 0 (read entries) (source w) (core entries (crossed_program w)) input
keeps entries w well input = by (slice_get w.procedures w.main) refl well.main
  where
    by : (o : Option Proc) → slice_get w.procedures w.main ≡ o → IsMain o → KeepsOn 100 0 (read entries) (source w) (core entries (crossed_program w)) input
    by None e none = absurd none
    by (Some p) e main =
        let ps : List Proc = w.procedures in
        let world : World = record { entries = entries; procedures = map crossed ps; addresses = [] } in
        let S : Option Proc → Type 0 = λ o. KeepsOn 100 0 (read entries) (λ i n. source_ending (source_enter n (source_calls ps n) o [] stack_end (source_first i n))) (core entries (crossed_program w)) input in
        let C : Option CoreProc → Type 0 = λ o. KeepsOn 100 0 (read entries) (λ i n. source_ending (source_enter n (source_calls ps n) (Some p) [] stack_end (source_first i n)))
        (λ i m. ending (core_enter world m (calls_of world m) o [] (touched_always 0) stack_end (record { memory = first_memory [] 0; log = []; input = i; taken = 0; left = m; cost = 0 }))) input in
        subst S (sym e) (subst C (sym (mapped_get ps w.main p e)) (keeps_main entries w well input p e main))

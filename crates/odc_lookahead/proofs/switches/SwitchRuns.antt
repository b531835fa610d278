-- Several names between `switch` and its cases, where one level is left.
use Rattle.std.proofs.Common.{◌≡◌, ℕ, List, arith}
use Rattle.odc_syntax.specs.declared.token.Token.{Token}
use Rattle.odc_lookahead.specs.declared.stop.Stop.{Stop}
use Rattle.odc_lookahead.specs.declared.stop.Stop.TheVariants as stop
use Rattle.odc_lookahead.specs.Exact.{Exact}
use Rattle.odc_lookahead.specs.stmts.Headers as header
use Rattle.odc_lookahead.specs.Read.{refused}
use Rattle.odc_lookahead.specs.stmts.RunBounds.{RunOver}
use Rattle.odc_lookahead.specs.stmts.SwitchParts.{switch_head, value_read, value_line, NotTyped}
use Rattle.odc_lookahead.specs.stmts.SwitchSets.{before_cases}
use Rattle.odc_lookahead.proofs.reading.Leading.{same_depth}
use Rattle.odc_lookahead.proofs.headers.HeadLemmas.{listed_run}
use Rattle.odc_lookahead.proofs.headers.HeaderFacts.{listed_at}
use Rattle.odc_lookahead.proofs.headers.RunBounds.{run_limit, clause_run_over}
use Rattle.odc_lookahead.proofs.switches.SwitchHeads.{head_stops}
use Rattle.odc_lookahead.proofs.switches.SwitchValues.{listed_far}

pub listed_over : (b : ℕ) (ts place : List Token) (e : Stop) → NotTyped ts → b ≡ 1 → header.Listed ts place → RunOver ts e → Exact switch_head before_cases b ts (refused e)
listed_over b ts place (stop.Syntax left) untyped one' z o =
    let l = listed_far b ts place untyped z in
    let limit = run_limit (listed_run ts place (listed_at ts place z)) o.run o.alone o.over (λ e. cc) in
    let far = l.1.0 in
    clause_run_over value_read value_line same_depth head_stops l.1.1 place (stop.Syntax left) (omega (arith, limit, far)) one' (listed_at ts place z) o
listed_over b ts place (stop.Deep left) untyped one' z o =
    let l = listed_far b ts place untyped z in
    let limit = run_limit (listed_run ts place (listed_at ts place z)) o.run o.alone o.over (λ e. cc) in
    let far = l.1.0 in
    clause_run_over value_read value_line same_depth head_stops l.1.1 place (stop.Deep left) (omega (arith, limit, far)) one' (listed_at ts place z) o
listed_over b ts place stop.Memory untyped one' z o = tt

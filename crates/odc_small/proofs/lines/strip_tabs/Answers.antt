use Rattle.std.proofs.Common.{◌≡◌, ◌≢◌, ◌++◌, ℕ, List, MatchOption, subst, take}
use Rattle.odc_small.specs.Grammar.{tabs}
use Rattle.std.proofs.lemmas.List.{take-replicate}
use Rattle.odc_small.proofs.lines.strip_tabs.Goals as goal

pub returns : goal.returns
returns c =
    let tab : ℕ = 9 in
    let e : take c.args.depth (tabs 8) ≡ tabs c.args.depth = take-replicate c.args.depth 8 tab c.requires in
    let P : List ℕ → Type 0 = λ m. MatchOption c.strip.result ((rest : List ℕ) → c.args.bytes.now ≢ m ++ rest) (λ rest. c.args.bytes.now ≡ m ++ rest.now) in
    subst P e c.strip.ensures

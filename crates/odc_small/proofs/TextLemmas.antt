-- Whole texts: each spells one tree at most, and what the reader finds is that one.
use Rattle.std.proofs.Common.{◌≡◌, ◌≢◌, ◌<◌, ◌≤◌, ◌+◌, ℕ, zero, suc, List, [], ◌∷◌, ◌++◌, length, map, refl, sym, ◌∙◌, ap, subst, append_assoc, arith, codes, length-append, lit≤}
use Rattle.std.specs.List.{AllByRecursion}
use Rattle.std.specs.Char.{IsAsciiUppercase}
use Rattle.std.proofs.lemmas.List.{append_cancel_left, map-append, length-map}
use Rattle.odc_typed.specs.Tree.{Proc, Stmts, Whole}
use Rattle.odc_small.specs.declared.scope.Signature.{Signature}
use Rattle.odc_small.specs.Forms.{FoundAt, NoneAt, spellings, many}
use Rattle.odc_small.specs.Grammar.{LineAt, Func, Tree, IsFunc, IsTree, lines, func_spelling, head, main_head, foot, text_spelling}
use Rattle.odc_small.specs.Names.{Around, Callable, any, listed, AreDifferent, KnowsFunc, KnowsBody, IsText, around_main, callable_in, signature_of, names_of, sum_of}
use Rattle.odc_small.specs.Progress.{Reached, NoBody, ReadsBody}
use Rattle.odc_small.specs.Text.{known_funcs, ReadsFunc, ReadsFuncs, IsKnownText, MainAt, ReadsMain, ReadsText, Spells, within}
use Rattle.odc_small.specs.Typing.{func_proc, func_procs, main_proc, func_height, typed}
use Rattle.odc_small.proofs.FormLemmas.{SoFar, none_yet, one_more, all_found, many_unique}
use Rattle.odc_small.proofs.PieceLemmas.{heads}
use Rattle.odc_small.proofs.BodyLemmas.{body_unique}
use Rattle.odc_small.proofs.BlockLemmas.{after_locals_are}
use Rattle.odc_small.proofs.FuncLemmas.{funcs_unique}
use Rattle.odc_small.proofs.AnyLemmas.{all_on, func_on, main_on}

-- ---- what stands where procedures end, and where lines end

-- what begins with a small letter is no procedure
no_func_main : (callable : Callable) (y : List ℕ) → NoneAt (known_funcs callable) (main_head ++ y)
no_func_main callable y f rest found =
    let e : 109 ≡ f.name = heads 109 f.name _ _ found.whole in
    let upper : IsAsciiUppercase f.name = found.is.0.name in
    omega (arith, e, upper.0, upper.1)

-- the end of the text is no line
pub no_body_foot : (around : Around) (old : Reached) → NoBody around 8 old foot
no_body_foot around old l rest f = omega (arith, heads 125 9 _ _ f.whole)

-- ---- one tree

as_funcs : (callable : Callable) (fs : List Func) (y : List ℕ) → AllByRecursion IsFunc fs → AllByRecursion (KnowsFunc callable) fs → FoundAt (many (known_funcs callable)) (spellings func_spelling fs ++ (main_head ++ y)) fs (main_head ++ y)
as_funcs callable fs y is knows = record { is = both fs is knows; ends = (tt, no_func_main callable y); whole = refl }
  where
    both : (gs : List Func) → AllByRecursion IsFunc gs → AllByRecursion (KnowsFunc callable) gs → AllByRecursion (known_funcs callable).Is gs
    both [] p q = tt
    both (g ∷ gs) p q = ((p.0, q.0), both gs p.1 q.1)

split_funcs : (callable : Callable) (fs : List Func) → AllByRecursion (known_funcs callable).Is fs → AllByRecursion IsFunc fs × AllByRecursion (KnowsFunc callable) fs
split_funcs callable [] all = (tt, tt)
split_funcs callable (f ∷ fs) all = let rest = split_funcs callable fs all.1 in ((all.0.0, rest.0), (all.0.1, rest.1))

length_procs : (callable : Callable) (line : ℕ) (fs : List Func) → length (func_procs callable line fs) ≡ length fs
length_procs callable line [] = refl
length_procs callable line (f ∷ fs) = ap suc (length_procs callable (line + func_height f) fs)

-- a procedure has three lines at least
heights_most : (fs : List Func) → length fs ≤ sum_of func_height fs
heights_most [] = lit≤ tt
heights_most (f ∷ fs) = omega (arith, heights_most fs)

module _ (callable : Callable) where
  -- the reader's list of procedures is that of each tree
  same_funcs : (body mid : List ℕ) (fs : List Func) (tree : Tree) → FoundAt (many (known_funcs callable)) body fs mid → IsKnownText callable (head ++ body) tree →
      (fs ≡ tree.funcs) × (mid ≡ main_head ++ (spellings (lines 7).spelling tree.main ++ foot))
  same_funcs body mid fs tree found known =
      let y = spellings (lines 7).spelling tree.main ++ foot in
      let same : body ≡ spellings func_spelling tree.funcs ++ (main_head ++ y) = append_cancel_left head body (spellings func_spelling tree.funcs ++ (main_head ++ y)) known.whole in
      many_unique (known_funcs callable) (funcs_unique callable) (λ t r is. tt) body fs tree.funcs mid (main_head ++ y) found
      (subst (λ z. FoundAt (many (known_funcs callable)) z tree.funcs (main_head ++ y)) (sym same) (as_funcs callable tree.funcs y known.is.funcs known.funcs))

  same_main : (bytes : List ℕ) (ls ms : List (LineAt 7)) → MainAt callable bytes ls → MainAt callable bytes ms → ls ≡ ms
  same_main bytes ls ms p q =
      let start : Reached = record { names = []; locals = []; next = 0; line = 0 } in
      let same : spellings (lines 7).spelling ls ++ foot ≡ spellings (lines 7).spelling ms ++ foot =
      append_cancel_left main_head (spellings (lines 7).spelling ls ++ foot) (spellings (lines 7).spelling ms ++ foot) (sym p.whole ∙ q.whole) in
      (body_unique (around_main callable) 8 (lit≤ tt) start ls ms foot foot p.is p.knows q.is q.knows same (no_body_foot (around_main callable) _) (no_body_foot (around_main callable) _)).0

  abbrev tree_of : List Func → List (LineAt 7) → Tree
  tree_of fs ls = record { funcs = fs; main = ls }

  pub text_unique : (bytes : List ℕ) (t u : Tree) → IsKnownText callable bytes t → IsKnownText callable bytes u → t ≡ u
  text_unique bytes t u p q =
      let y = spellings (lines 7).spelling t.main ++ foot in
      let z = spellings (lines 7).spelling u.main ++ foot in
      let whole : bytes ≡ head ++ (spellings func_spelling t.funcs ++ (main_head ++ y)) = p.whole in
      let both = same_funcs (spellings func_spelling t.funcs ++ (main_head ++ y)) (main_head ++ y) t.funcs u (as_funcs callable t.funcs y p.is.funcs p.funcs)
      (record { is = q.is; funcs = q.funcs; main = q.main; whole = sym whole ∙ q.whole }) in
      let mains : t.main ≡ u.main = same_main (main_head ++ y) t.main u.main (record { is = p.is.main; knows = p.main; whole = refl }) (record { is = q.is.main; knows = q.main; whole = both.1 }) in
      ap (λ fs. tree_of fs t.main) both.0 ∙ ap (λ ls. tree_of u.funcs ls) mains

  -- ---- procedures

  heights_push : (fs : List Func) (f : Func) → sum_of func_height (fs ++ f ∷ []) ≡ sum_of func_height fs + func_height f
  heights_push [] f = omega arith
  heights_push (g ∷ gs) f = omega (arith, heights_push gs f)

  procs_push : (line : ℕ) (fs : List Func) (f : Func) → func_procs callable line (fs ++ f ∷ []) ≡ func_procs callable line fs ++ func_proc callable (line + sum_of func_height fs) f ∷ []
  procs_push line [] f = let same : line ≡ line + 0 = omega arith in ap (λ (k : ℕ). let ps : List Proc = func_proc callable k f ∷ [] in ps) same
  procs_push line (g ∷ gs) f =
      let same : line + func_height g + sum_of func_height gs ≡ line + (func_height g + sum_of func_height gs) = omega arith in
      ap (λ (ps : List Proc). func_proc callable line g ∷ ps)
      (procs_push (line + func_height g) gs f ∙ ap (λ (k : ℕ). func_procs callable (line + func_height g) gs ++ func_proc callable k f ∷ []) same)

  -- what a loop has found so far
  pub record FuncsSoFar (next : ℕ) (bytes rest : List ℕ) (ps : List Proc) (ss : List Signature) : Type 0 where
    pub trees : List Func
    pub found : SoFar (known_funcs callable) bytes trees rest
    pub gives : ps ≡ func_procs callable 3 trees
    pub signatures : ss ≡ map signature_of trees
    pub after : next ≡ 3 + sum_of func_height trees
    pub moves : next + length rest ≤ 3 + length bytes

  pub no_funcs_yet : (bytes : List ℕ) → FuncsSoFar 3 bytes bytes [] []
  no_funcs_yet bytes = record { trees = []; found = none_yet (known_funcs callable) bytes tt; gives = refl; signatures = refl; after = refl; moves = omega arith }

  pub func_more : (line next : ℕ) (bytes rest last : List ℕ) (ps ps' : List Proc) (ss ss' : List Signature) (p : Proc) (s : Signature) → FuncsSoFar line bytes rest ps ss → ReadsFunc callable line next rest last p s →
      ps' ≡ ps ++ p ∷ [] → ss' ≡ ss ++ s ∷ [] → FuncsSoFar next bytes last ps' ss'
  func_more line next bytes rest last ps ps' ss ss' p s far one e f = record {
    trees = far.trees ++ one.tree ∷ [];
    found = one_more (known_funcs callable) bytes far.trees rest one.tree last far.found one.found;
    gives = e ∙ ap (λ (qs : List Proc). qs ++ p ∷ []) far.gives ∙ ap (λ (q : Proc). func_procs callable 3 far.trees ++ q ∷ []) (one.gives ∙ ap (λ (k : ℕ). func_proc callable k one.tree) far.after)
        ∙ sym (procs_push 3 far.trees one.tree);
    signatures = f ∙ ap (λ (qs : List Signature). qs ++ s ∷ []) far.signatures ∙ ap (λ (q : Signature). map signature_of far.trees ++ q ∷ []) one.signature ∙ sym (map-append signature_of far.trees (one.tree ∷ []));
    after = omega (arith, one.after, far.after, heights_push far.trees one.tree);
    moves = omega (arith, one.moves, far.moves);
  }

  pub funcs_read : (next : ℕ) (bytes rest : List ℕ) (ps : List Proc) (ss : List Signature) → FuncsSoFar next bytes rest ps ss → NoneAt (known_funcs callable) rest → ReadsFuncs callable next bytes rest ps ss
  funcs_read next bytes rest ps ss far off = record {
    trees = far.trees;
    found = all_found (known_funcs callable) bytes far.trees rest far.found off;
    gives = far.gives;
    signatures = far.signatures;
    after = far.after;
    moves = far.moves;
  }

  -- ---- `main`

  pub main_none_head : (bytes : List ℕ) → ((rest : List ℕ) → bytes ≢ main_head ++ rest) → (ls : List (LineAt 7)) → ¬ MainAt callable bytes ls
  main_none_head bytes off ls m = off (spellings (lines 7).spelling ls ++ foot) m.whole

  pub main_none_foot : (bytes inner rest : List ℕ) (line : ℕ) (new : Reached) (ss : Stmts) → bytes ≡ main_head ++ inner → ReadsBody (around_main callable) 8 (record { names = []; locals = []; next = 0; line = line }) new inner rest ss → rest ≢ foot →
      (ls : List (LineAt 7)) → ¬ MainAt callable bytes ls
  main_none_foot bytes inner rest line new ss e body off ls m =
      let old : Reached = record { names = []; locals = []; next = 0; line = line } in
      let same : inner ≡ spellings (lines 7).spelling ls ++ foot = append_cancel_left main_head inner (spellings (lines 7).spelling ls ++ foot) (sym e ∙ m.whole) in
      off (body_unique (around_main callable) 8 (lit≤ tt) old body.trees ls rest foot body.is body.knows m.is m.knows (sym body.whole ∙ same) (subst (λ (z : Reached). NoBody (around_main callable) 8 z rest) body.after body.off) (no_body_foot (around_main callable) _)).1

  pub main_read : (bytes inner rest : List ℕ) (line : ℕ) (new : Reached) (ss : Stmts) (p : Proc) → bytes ≡ main_head ++ inner → ReadsBody (around_main callable) 8 (record { names = []; locals = []; next = 0; line = line + 1 }) new inner rest ss → rest ≡ foot →
      p ≡ record (main_proc callable line []) { locals = new.locals; body = ss } → ReadsMain callable line bytes p
  main_read bytes inner rest line new ss p e body last is =
      let old : Reached = record { names = []; locals = []; next = 0; line = line + 1 } in
      let locals = ap (λ (z : Reached). z.locals) body.after ∙ after_locals_are 8 old body.trees in
      record {
        trees = body.trees;
        found = record { is = body.is; knows = body.knows; whole = e ∙ ap (λ z. main_head ++ z) (body.whole ∙ ap (λ z. spellings (lines 7).spelling body.trees ++ z) last) };
        gives = is ∙ ap (λ vs. record (main_proc callable line []) { locals = vs; body = ss }) locals
            ∙ ap (λ (b : Stmts). record (main_proc callable line body.trees) { body = b }) body.gives;
      }

  -- ---- texts

  pub text_none_head : (bytes : List ℕ) → ((rest : List ℕ) → bytes ≢ head ++ rest) → (tree : Tree) → ¬ IsKnownText callable bytes tree
  text_none_head bytes off tree known = off _ known.whole

  pub text_none_main : (bytes body rest : List ℕ) (next : ℕ) (ps : List Proc) (ss : List Signature) → bytes ≡ head ++ body → ReadsFuncs callable next body rest ps ss → ((ls : List (LineAt 7)) → ¬ MainAt callable rest ls) → (tree : Tree) → ¬ IsKnownText callable bytes tree
  text_none_main bytes body rest next ps ss e reads off tree known =
      let same = same_funcs body rest reads.trees tree reads.found (record { is = known.is; funcs = known.funcs; main = known.main; whole = sym e ∙ known.whole }) in
      off tree.main (record { is = known.is.main; knows = known.main; whole = same.1 })

  pub text_read : (bytes body rest : List ℕ) (next : ℕ) (ps all : List Proc) (ss : List Signature) (p : Proc) → bytes ≡ head ++ body → ReadsFuncs callable next body rest ps ss → ReadsMain callable next rest p → all ≡ ps ++ p ∷ [] → ReadsText callable bytes all ss
  text_read bytes body rest next ps all ss p e reads main is =
      let parts = split_funcs callable reads.trees reads.found.is in
      record {
        tree = record { funcs = reads.trees; main = main.trees };
        found = record {
          is = record { funcs = parts.0; main = main.found.is };
          funcs = parts.1;
          main = main.found.knows;
          whole = e ∙ ap (λ z. head ++ z) (reads.found.whole ∙ ap (λ z. spellings func_spelling reads.trees ++ z) main.found.whole);
        };
        gives = is ∙ ap (λ (qs : List Proc). qs ++ p ∷ []) reads.gives ∙ ap (λ (q : Proc). func_procs callable 3 reads.trees ++ q ∷ []) (main.gives ∙ ap (λ (k : ℕ). main_proc callable k main.trees) reads.after);
        signatures = reads.signatures;
        some = omega (arith, ap length is, length-append ps (p ∷ []));
        few = omega (
          arith,
          ap length is,
          length-append ps (p ∷ []),
          ap length reads.gives,
          length_procs callable 3 reads.trees,
          heights_most reads.trees,
          reads.after,
          reads.moves,
          ap length e,
          length-append head body,
        );
        fewer = omega (
          arith,
          ap length reads.signatures,
          length-map reads.trees signature_of,
          heights_most reads.trees,
          reads.after,
          reads.moves,
          ap length e,
          length-append head body,
        );
      }

-- ---- read twice

-- a text whose names may stand is one with any procedures
known_any : (callable : Callable) (bytes : List ℕ) (tree : Tree) → IsKnownText callable bytes tree → IsKnownText any bytes tree
known_any callable bytes tree k = record { is = k.is; funcs = all_on (KnowsFunc callable) (KnowsFunc any) (func_on callable) tree.funcs k.funcs; main = main_on callable tree.main k.main; whole = k.whole }

as_known : (bytes : List ℕ) (tree : Tree) → Spells bytes tree → IsKnownText (callable_in tree) bytes tree
as_known bytes tree s = record { is = s.is.is; funcs = s.is.funcs; main = s.is.main; whole = s.whole }

names_same : (fs : List Func) → names_of (map signature_of fs) ≡ map (λ (f : Func). f.name) fs
names_same [] = refl
names_same (f ∷ fs) = ap (λ (ns : List ℕ). f.name ∷ ns) (names_same fs)

pub none_long : (bytes : List ℕ) → within < length bytes → (tree : Tree) → ¬ Spells bytes tree
none_long bytes h tree s = omega (arith, h, s.short)

pub none_any : (bytes : List ℕ) → ((tree : Tree) → ¬ IsKnownText any bytes tree) → (tree : Tree) → ¬ Spells bytes tree
none_any bytes off tree s = off tree (known_any (callable_in tree) bytes tree (as_known bytes tree s))

-- the tree of a text is the one that was read with any procedures
read_same : (bytes : List ℕ) (ps : List Proc) (ss : List Signature) → ReadsText any bytes ps ss → (tree : Tree) → IsKnownText any bytes tree → ss ≡ map signature_of tree.funcs
read_same bytes ps ss r tree k = r.signatures ∙ ap (λ (t : Tree). map signature_of t.funcs) (text_unique any bytes r.tree tree r.found k)

pub none_different : (bytes : List ℕ) (ps : List Proc) (ss : List Signature) → ReadsText any bytes ps ss → ¬ AreDifferent (names_of ss) → (tree : Tree) → ¬ Spells bytes tree
none_different bytes ps ss r off tree s =
    let same = read_same bytes ps ss r tree (known_any (callable_in tree) bytes tree (as_known bytes tree s)) in
    off (subst AreDifferent (sym (names_same tree.funcs) ∙ ap names_of (sym same)) s.is.different)

pub none_listed : (bytes : List ℕ) (ps : List Proc) (ss : List Signature) → ReadsText any bytes ps ss → ((tree : Tree) → ¬ IsKnownText (listed ss) bytes tree) → (tree : Tree) → ¬ Spells bytes tree
none_listed bytes ps ss r off tree s =
    let k = as_known bytes tree s in
    let same = read_same bytes ps ss r tree (known_any (callable_in tree) bytes tree k) in
    off tree (subst (λ (x : List Signature). IsKnownText (listed x) bytes tree) (sym same) k)

-- what the second reading gives is the program of the text
pub record IsProgramOf (bytes : List ℕ) (p : Whole) : Type 0 where
  pub tree : Tree
  pub spells : Spells bytes tree
  pub same : p ≡ typed tree

pub program_read : (bytes : List ℕ) (ps qs : List Proc) (ss ts : List Signature) (main : ℕ) → length bytes ≤ within → ReadsText any bytes ps ss → AreDifferent (names_of ss) → ReadsText (listed ss) bytes qs ts → main + 1 ≡ length qs →
    (tree : Tree) × Spells bytes tree × (let w : Whole = record { procedures = qs; main = main } in w ≡ typed tree)
program_read bytes ps qs ss ts main short r different second last =
    let tree : Tree = second.tree in
    let same = read_same bytes ps ss r tree (known_any (listed ss) bytes tree second.found) in
    let k : IsKnownText (callable_in tree) bytes tree = subst (λ (x : List Signature). IsKnownText (listed x) bytes tree) same second.found in
    let gives = second.gives ∙ ap (λ (x : List Signature). func_procs (listed x) 3 tree.funcs ++ main_proc (listed x) (3 + sum_of func_height tree.funcs) tree.main ∷ []) same in
    let count : main ≡ length tree.funcs =
    omega (
      arith,
      last,
      ap length gives,
      length-append (func_procs (callable_in tree) 3 tree.funcs) (main_proc (callable_in tree) (3 + sum_of func_height tree.funcs) tree.main ∷ []),
      length_procs (callable_in tree) 3 tree.funcs,
    ) in (
      tree,
      record {
        is = record { is = k.is; different = subst AreDifferent (ap names_of same ∙ names_same tree.funcs) different; funcs = k.funcs; main = k.main };
        whole = k.whole;
        short = short;
      },
      ap (λ (xs : List Proc). let w : Whole = record { procedures = xs; main = main } in w) gives ∙ ap (λ (n : ℕ). record (typed tree) { main = n }) count,
    )

-- no text spells two trees
pub one_tree : (t u : Tree) → IsText t → IsText u → text_spelling t ≡ text_spelling u → t ≡ u
one_tree t u p q e =
    text_unique any (text_spelling t) t u
    (known_any (callable_in t) (text_spelling t) t (record { is = p.is; funcs = p.funcs; main = p.main; whole = refl }))
    (known_any (callable_in u) (text_spelling t) u (record { is = q.is; funcs = q.funcs; main = q.main; whole = e }))

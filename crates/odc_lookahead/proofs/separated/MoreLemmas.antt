-- What is left of a list between commas behind an item, up to a closing token: it ends, with a comma before
-- the closing token or without, or goes on with a further item.
use Rattle.std.proofs.Common.{◌≡◌, ℕ, ◌*◌, ◌<◌, ◌≤◌, Bool, true, false, List, [], ◌∷◌, ◌++◌, length, sym, ◌∙◌, ap, subst, arith, append_assoc, ◌⊎◌, inl, inr}
use Rattle.odc_syntax.specs.declared.token.Token.{Token}
use Rattle.odc_syntax.specs.declared.token.TokenKind.{TokenKind}
use Rattle.odc_syntax.specs.declared.token.TokenKind.TheVariants as kind
use Rattle.odc_syntax.specs.Grammar.{Sym, tok, Rule}
use Rattle.odc_syntax.specs.Derives.{Reach, here, read, write, StartsWithout}
use Rattle.odc_lookahead.specs.declared.stop.Stop.{Stop}
use Rattle.odc_lookahead.specs.declared.stop.Stop.TheVariants as stop
use Rattle.odc_lookahead.specs.Exact.{size, Clear, Part, then_, done, token, behind, Exact, Broken, TooDeep}
use Rattle.odc_lookahead.specs.Read.{refused}
use Rattle.odc_lookahead.specs.Lists.{Ended, at_once, trailing, Again, NotGoing}
use Rattle.odc_lookahead.proofs.reading.Opening.{OpensAll, reach_opens}
use Rattle.odc_lookahead.proofs.reading.Reaching.{moved, IsPart, behind_part, behind_token}
use Rattle.odc_lookahead.proofs.reading.Samples as sample
use Rattle.odc_lookahead.proofs.reading.Answering.{moved_end, Stepped, led_step, led_stuck, led_over}
use Rattle.odc_lookahead.proofs.reading.Leading.{same_depth, Led, first_is, rest_is, without}
use Rattle.odc_lookahead.specs.declared.tokens.Fit.{Fit}
use Rattle.odc_lookahead.specs.declared.tokens.Fit.TheVariants as fit

pub record Item {V L : Type 0} (item : Part V) (more : ℕ → L → Sym) (cons : V → L → L) (c : ℕ) (w : L) (head p : List Sym) : Type 0 where
  pub first : V
  pub rest : L
  pub value : w ≡ cons first rest
  pub is : p ≡ head ++ (item c first ++ more c rest ∷ [])

-- the rules of what is left of a list
pub record More {V L : Type 0} (item : Part V) (more : ℕ → L → Sym) (nil : L) (cons : V → L → L) : Type 0 where
  pub part : (c : ℕ) (l : L) → IsPart (more c l)
  pub ended : (c : ℕ) → Rule (more c nil) []
  pub comma : (c : ℕ) (t : Token) → Rule (more c nil) (tok kind.Comma t ∷ [])
  pub again : (c : ℕ) (t : Token) (v : V) (l : L) → Rule (more c (cons v l)) (tok kind.Comma t ∷ (item c v ++ more c l ∷ []))
  pub cases : (c : ℕ) (w : L) (p : List Sym) → Rule (more c w) p → ((p ≡ []) × (w ≡ nil)) ⊎ ((t : Token) × (((p ≡ tok kind.Comma t ∷ []) × (w ≡ nil)) ⊎ Item item more cons c w (tok kind.Comma t ∷ []) p))

module _ {V L : Type 0} (item : Part V) (more : ℕ → L → Sym) (nil : L) (cons : V → L → L) (rules : More item more nil cons) (any : V) (close : TokenKind) (not_comma : kind.Comma ≡ close → ⊥)
    (closes : (c : ℕ) (v : V) (s : List Sym) (t : Token) (us : List Token) → t.kind ≡ close → OpensAll (item c v ++ s) (t ∷ us) → ⊥) where
  -- what is left, and an item with what is left
  abbrev pub Left : Part (L × (Token × Unit {0}))
  Left = then_ more (then_ (token close) done)

  abbrev pub Next : Part (V × (L × (Token × Unit {0})))
  Next = behind item Left

  abbrev pub longer : V × (L × (Token × Unit {0})) → L × (Token × Unit {0})
  longer u = (cons u.0 u.1.0, u.1.1)

  pub regrouped : (a : List Sym) (x y : Sym) (s : List Sym) → (a ++ x ∷ []) ++ (y ∷ s) ≡ (a ++ (x ∷ y ∷ [])) ++ s
  regrouped a x y s = append_assoc a (x ∷ []) (y ∷ s) ∙ sym (append_assoc a (x ∷ y ∷ []) s)

  -- behind an item: the closing token
  close_by : {s' : List Sym} {ts' : List Token} (t : Token) (us : List Token) → t.kind ≡ close → (c : ℕ) (w : L × (Token × Unit {0})) (p : List Sym) (s : List Sym) →
      ((p ≡ []) × (w.0 ≡ nil)) ⊎ ((u : Token) × (((p ≡ tok kind.Comma u ∷ []) × (w.0 ≡ nil)) ⊎ Item item more cons c w.0 (tok kind.Comma u ∷ []) p)) →
      Reach s' ts' (p ++ (tok close w.1.0 ∷ s)) (t ∷ us) → size s' ts' ≤ 2 * length us → Stepped done (λ u. (nil, (t, tt))) c w s s' ts' us
  unfolding then_ token done
  close_by {s'} {ts'} t us e c w p s (inl z) r h =
      let y = behind_token (moved (ap (λ (q : List Sym). q ++ (tok close w.1.0 ∷ s)) z.0) r) (omega (arith, h)) in
      record { by = tt; is = (λ i. (z.1 i, ((first_is y.is) i, tt))); reach = subst (λ (l : List Token). Reach s' ts' s l) (rest_is y.is) y.reach }
  close_by t us e c w p s (inr (u, inl z)) r h =
      let y : t.kind ≡ kind.Comma = reach_opens (moved (ap (λ (q : List Sym). q ++ (tok close w.1.0 ∷ s)) z.0) r) (omega (arith, h)) in
      absurd (not_comma (sym y ∙ e))
  close_by t us e c w p s (inr (u, inr z)) r h =
      let y : t.kind ≡ kind.Comma = reach_opens (moved (ap (λ (q : List Sym). q ++ (tok close w.1.0 ∷ s)) z.is) r) (omega (arith, h)) in
      absurd (not_comma (sym y ∙ e))

  pub more_close : {V' : Type 0} {p : Part V'} {cont : TokenKind → Bool} {b : ℕ} {ts : List Token} {f : L × (Token × Unit {0}) → V'} {n : ℕ} (t : Token) (us : List Token) → t.kind ≡ close → n ≤ b →
      Led p cont (λ n. n) b ts Left f n (t ∷ us) → Led p cont (λ n. n) b ts done (λ u. f (nil, (t, tt))) n us
  unfolding then_ token done
  more_close t us e within l =
      led_step us done (λ u. (nil, (t, tt))) tt same_depth within (omega arith) (λ c w s. write [] (rules.ended c) (read e here))
      (λ c u s s' ts' clear r h.
      let z = behind_part (rules.part c u.0) r (omega (arith, h)) in
      close_by t us e c u z.as_symbols s (rules.cases c u.0 z.as_symbols z.rule) z.reach h)
      l

  -- a comma, and the closing token behind it
  trailing_by : {s' : List Sym} {ts' : List Token} (k t : Token) (us : List Token) → k.kind ≡ kind.Comma → t.kind ≡ close → (c : ℕ) (w : L × (Token × Unit {0})) (p : List Sym) (s : List Sym) →
      ((p ≡ []) × (w.0 ≡ nil)) ⊎ ((u : Token) × (((p ≡ tok kind.Comma u ∷ []) × (w.0 ≡ nil)) ⊎ Item item more cons c w.0 (tok kind.Comma u ∷ []) p)) →
      Reach s' ts' (p ++ (tok close w.1.0 ∷ s)) (k ∷ t ∷ us) → size s' ts' ≤ 2 * length us → Stepped done (λ u. (nil, (t, tt))) c w s s' ts' us
  unfolding then_ token done
  trailing_by k t us f e c w p s (inl z) r h =
      let y : k.kind ≡ close = reach_opens (moved (ap (λ (q : List Sym). q ++ (tok close w.1.0 ∷ s)) z.0) r) (omega (arith, h)) in
      absurd (not_comma (sym f ∙ y))
  trailing_by {s'} {ts'} k t us f e c w p s (inr (u, inl z)) r h =
      let y = behind_token (moved (ap (λ (q : List Sym). q ++ (tok close w.1.0 ∷ s)) z.0) r) (omega (arith, h)) in
      let x = behind_token (subst (λ (l : List Token). Reach s' ts' (tok close w.1.0 ∷ s) l) (rest_is y.is) y.reach) (omega (arith, h)) in
      record { by = tt; is = (λ i. (z.1 i, ((first_is x.is) i, tt))); reach = subst (λ (l : List Token). Reach s' ts' s l) (rest_is x.is) x.reach }
  trailing_by {s'} {ts'} k t us f e c w p s (inr (u, inr z)) r h =
      let y = behind_token (moved (ap (λ (q : List Sym). q ++ (tok close w.1.0 ∷ s)) z.is) r) (omega (arith, h)) in
      absurd (closes c z.first (more c z.rest ∷ tok close w.1.0 ∷ s) t us e
      (reach_opens (moved (append_assoc (item c z.first) (more c z.rest ∷ []) (tok close w.1.0 ∷ s))
      (subst (λ (l : List Token). Reach s' ts' ((item c z.first ++ more c z.rest ∷ []) ++ (tok close w.1.0 ∷ s)) l) (rest_is y.is) y.reach)) (omega (arith, h))))

  pub more_trailing : {V' : Type 0} {p : Part V'} {cont : TokenKind → Bool} {b : ℕ} {ts : List Token} {f : L × (Token × Unit {0}) → V'} {n : ℕ} (k t : Token) (us : List Token) → k.kind ≡ kind.Comma → t.kind ≡ close → n ≤ b →
      Led p cont (λ n. n) b ts Left f n (k ∷ t ∷ us) → Led p cont (λ n. n) b ts done (λ u. f (nil, (t, tt))) n us
  unfolding then_ token done
  more_trailing k t us e f within l =
      led_step us done (λ u. (nil, (t, tt))) tt same_depth within (omega arith) (λ c w s. write _ (rules.comma c k) (read e (read f here)))
      (λ c u s s' ts' clear r h.
      let z = behind_part (rules.part c u.0) r (omega (arith, h)) in
      trailing_by k t us e f c u z.as_symbols s (rules.cases c u.0 z.as_symbols z.rule) z.reach h)
      l

  -- a comma, and a further item
  again_by : {s' : List Sym} {ts' : List Token} (k : Token) (us : List Token) → k.kind ≡ kind.Comma → StartsWithout close us → (c : ℕ) (w : L × (Token × Unit {0})) (p : List Sym) (s : List Sym) →
      ((p ≡ []) × (w.0 ≡ nil)) ⊎ ((u : Token) × (((p ≡ tok kind.Comma u ∷ []) × (w.0 ≡ nil)) ⊎ Item item more cons c w.0 (tok kind.Comma u ∷ []) p)) →
      Reach s' ts' (p ++ (tok close w.1.0 ∷ s)) (k ∷ us) → size s' ts' ≤ 2 * length us → Stepped Next longer c w s s' ts' us
  unfolding then_ token done behind
  again_by k us f open' c w p s (inl z) r h =
      let y : k.kind ≡ close = reach_opens (moved (ap (λ (q : List Sym). q ++ (tok close w.1.0 ∷ s)) z.0) r) (omega (arith, h)) in
      absurd (not_comma (sym f ∙ y))
  again_by {s'} {ts'} k us f open' c w p s (inr (u, inl z)) r h =
      let y = behind_token (moved (ap (λ (q : List Sym). q ++ (tok close w.1.0 ∷ s)) z.0) r) (omega (arith, h)) in
      let x = behind_token (subst (λ (l : List Token). Reach s' ts' (tok close w.1.0 ∷ s) l) (rest_is y.is) y.reach) h in
      absurd (without close _ _ us x.is x.kind open')
  again_by {s'} {ts'} k us f open' c w p s (inr (u, inr z)) r h =
      let y = behind_token (moved (ap (λ (q : List Sym). q ++ (tok close w.1.0 ∷ s)) z.is) r) (omega (arith, h)) in
      record {
        by = (z.first, (z.rest, w.1));
        is = ap (λ (l : L). (l, w.1)) z.value;
        reach = moved (regrouped (item c z.first) (more c z.rest) (tok close w.1.0) s)
            (subst (λ (l : List Token). Reach s' ts' ((item c z.first ++ more c z.rest ∷ []) ++ (tok close w.1.0 ∷ s)) l) (rest_is y.is) y.reach);
      }

  pub more_again : {V' : Type 0} {p : Part V'} {cont : TokenKind → Bool} {b : ℕ} {ts : List Token} {f : L × (Token × Unit {0}) → V'} {n : ℕ} (k : Token) (us : List Token) → k.kind ≡ kind.Comma → StartsWithout close us → n ≤ b →
      Led p cont (λ n. n) b ts Left f n (k ∷ us) → Led p cont (λ n. n) b ts Next (λ u. f (longer u)) n us
  unfolding then_ token done behind
  more_again k us e open' within l =
      led_step us Next longer (any, (nil, (sample.token, tt))) same_depth within (omega arith)
      (λ c w s. moved_end (regrouped (item c w.0) (more c w.1.0) (tok close w.1.1.0) s) (write _ (rules.again c k w.0 w.1.0) (read e here)))
      (λ c u s s' ts' clear r h.
      let z = behind_part (rules.part c u.0) r (omega (arith, h)) in
      again_by k us e open' c u z.as_symbols s (rules.cases c u.0 z.as_symbols z.rule) z.reach h)
      l

  -- neither a comma nor the closing token
  stuck_by : {s' : List Sym} {ts' : List Token} (rest : List Token) → StartsWithout kind.Comma rest → StartsWithout close rest → (c : ℕ) (w : L × (Token × Unit {0})) (p : List Sym) (s : List Sym) →
      ((p ≡ []) × (w.0 ≡ nil)) ⊎ ((u : Token) × (((p ≡ tok kind.Comma u ∷ []) × (w.0 ≡ nil)) ⊎ Item item more cons c w.0 (tok kind.Comma u ∷ []) p)) →
      Reach s' ts' (p ++ (tok close w.1.0 ∷ s)) rest → size s' ts' ≤ 2 * length rest → ⊥
  stuck_by rest f open' c w p s (inl z) r h = let y = behind_token (moved (ap (λ (q : List Sym). q ++ (tok close w.1.0 ∷ s)) z.0) r) h in without close _ _ rest y.is y.kind open'
  stuck_by rest f open' c w p s (inr (u, inl z)) r h = let y = behind_token (moved (ap (λ (q : List Sym). q ++ (tok close w.1.0 ∷ s)) z.0) r) h in without kind.Comma _ _ rest y.is y.kind f
  stuck_by rest f open' c w p s (inr (u, inr z)) r h = let y = behind_token (moved (ap (λ (q : List Sym). q ++ (tok close w.1.0 ∷ s)) z.is) r) h in without kind.Comma _ _ rest y.is y.kind f

  pub more_broken : {V' : Type 0} {p : Part V'} {cont : TokenKind → Bool} {b : ℕ} {ts : List Token} {f : L × (Token × Unit {0}) → V'} {n : ℕ} {rest : List Token} → StartsWithout kind.Comma rest → StartsWithout close rest →
      Led p cont (λ n. n) b ts Left f n rest → Broken p cont b ts (length rest)
  unfolding then_ token done
  more_broken {rest = rest} f open' l =
      led_stuck (λ c u s s' ts' clear r h.
      let z = behind_part (rules.part c u.0) r h in
      stuck_by rest f open' c u z.as_symbols s (rules.cases c u.0 z.as_symbols z.rule) z.reach h) l

  -- either of them, where what was read is too deep
  pub more_deep : {V' : Type 0} {p : Part V'} {cont : TokenKind → Bool} {b : ℕ} {ts : List Token} {f : L × (Token × Unit {0}) → V'} {n : ℕ} {rest : List Token} (t : Token) (us : List Token) → rest ≡ t ∷ us →
      (t.kind ≡ kind.Comma) ⊎ (t.kind ≡ close) → b < n → Led p cont (λ n. n) b ts Left f n rest → TooDeep p cont b ts (length us)
  unfolding then_ token done
  more_deep {rest = rest} t us is (inl e) over l =
      led_over same_depth is over (λ c. ((nil, (sample.token, tt)), λ s. (tok close sample.token ∷ s, subst (λ (r : List Token). Reach (tok close sample.token ∷ s) us (more c nil ∷ tok close sample.token ∷ s) r) (sym is) (write _ (rules.comma c t) (read e here))))) l
  more_deep {rest = rest} t us is (inr e) over l =
      led_over same_depth is over (λ c. ((nil, (t, tt)), λ s. (s, subst (λ (r : List Token). Reach s us (more c nil ∷ tok close t ∷ s) r) (sym is) (write [] (rules.ended c) (read e here))))) l

  -- what goes on with an item is read neither by the comma nor by the closing token
  not_left : {s' : List Sym} {ts' : List Token} (cont : TokenKind → Bool) (t : Token) (us : List Token) → cont kind.Comma ≡ false → cont close ≡ false → cont t.kind ≡ true → (c : ℕ) (w : L × (Token × Unit {0})) (p : List Sym) (s : List Sym) →
      ((p ≡ []) × (w.0 ≡ nil)) ⊎ ((u : Token) × (((p ≡ tok kind.Comma u ∷ []) × (w.0 ≡ nil)) ⊎ Item item more cons c w.0 (tok kind.Comma u ∷ []) p)) →
      Reach s' ts' (p ++ (tok close w.1.0 ∷ s)) (t ∷ us) → size s' ts' ≤ 2 * length (t ∷ us) → ⊥
  not_left cont t us comma closing on c w p s (inl z) r h =
      let y : t.kind ≡ close = reach_opens (moved (ap (λ (q : List Sym). q ++ (tok close w.1.0 ∷ s)) z.0) r) h in
      let bad : true ≡ false = sym on ∙ ap cont y ∙ closing in
      cc
  not_left cont t us comma closing on c w p s (inr (u, inl z)) r h =
      let y : t.kind ≡ kind.Comma = reach_opens (moved (ap (λ (q : List Sym). q ++ (tok close w.1.0 ∷ s)) z.0) r) h in
      let bad : true ≡ false = sym on ∙ ap cont y ∙ comma in
      cc
  not_left cont t us comma closing on c w p s (inr (u, inr z)) r h =
      let y : t.kind ≡ kind.Comma = reach_opens (moved (ap (λ (q : List Sym). q ++ (tok close w.1.0 ∷ s)) z.is) r) h in
      let bad : true ≡ false = sym on ∙ ap cont y ∙ comma in
      cc

  pub left_clear : (cont : TokenKind → Bool) → cont kind.Comma ≡ false → cont close ≡ false → (c : ℕ) (u : L × (Token × Unit {0})) (s : List Sym) → Clear cont (Left c u ++ s)
  unfolding then_ token done
  left_clear cont comma closing c u s = record {
    stops = λ t us s' ts' on r h.
        let z = behind_part (rules.part c u.0) r (omega (arith, h)) in
        not_left cont t us comma closing on c u z.as_symbols s (rules.cases c u.0 z.as_symbols z.rule) z.reach (omega (arith, h));
  }

  -- the list ends behind an item
  pub list_ended : {V' : Type 0} {p : Part V'} {cont : TokenKind → Bool} {b : ℕ} {ts : List Token} {f : L × (Token × Unit {0}) → V'} {n : ℕ} {rest : List Token} (t : Token) (us : List Token) → Ended close rest t us → n ≤ b →
      Led p cont (λ n. n) b ts Left f n rest → Led p cont (λ n. n) b ts done (λ u. f (nil, (t, tt))) n us
  list_ended {p = p} {cont = cont} {b = b} {ts = ts} {f = f} {n = n} t us (at_once c) within l =
      more_close t us c.kind within (subst (λ (r : List Token). Led p cont (λ n. n) b ts Left f n r) c.is l)
  list_ended {p = p} {cont = cont} {b = b} {ts = ts} {f = f} {n = n} t us (trailing vs k c) within l =
      more_trailing k.comma t us k.kind c.kind within (subst (λ (r : List Token). Led p cont (λ n. n) b ts Left f n r) (k.is ∙ ap (λ (l : List Token). k.comma ∷ l) c.is) l)

  -- it goes on with a further item
  pub list_again : {V' : Type 0} {p : Part V'} {cont : TokenKind → Bool} {b : ℕ} {ts : List Token} {f : L × (Token × Unit {0}) → V'} {n : ℕ} {rest : List Token} (us : List Token) → Again close rest us → n ≤ b →
      Led p cont (λ n. n) b ts Left f n rest → Led p cont (λ n. n) b ts Next (λ u. f (longer u)) n us
  list_again {p = p} {cont = cont} {b = b} {ts = ts} {f = f} {n = n} us a within l =
      more_again a.parted.comma us a.parted.kind a.open_ within (subst (λ (r : List Token). Led p cont (λ n. n) b ts Left f n r) a.parted.is l)

  -- it does not go on
  pub list_refused : {V' : Type 0} {p : Part V'} {cont : TokenKind → Bool} {b : ℕ} {ts : List Token} {f : L × (Token × Unit {0}) → V'} {n : ℕ} {rest : List Token} (e : Stop) (w : Fit) → NotGoing close w rest e → (w ≡ fit.Over → b < n) →
      Led p cont (λ n. n) b ts Left f n rest → Exact p cont b ts (refused e)
  list_refused {p = p} {cont = cont} {b = b} {ts = ts} (stop.Syntax left) w h over l = subst (λ (k : ℕ). Broken p cont b ts k) (sym h.left_is) (more_broken h.comma h.closing l)
  list_refused {p = p} {cont = cont} {b = b} {ts = ts} (stop.Deep left) w h over l = subst (λ (k : ℕ). TooDeep p cont b ts k) (sym h.0.left_is) (more_deep h.0.first h.0.rest h.0.is h.0.kind (over h.1) l)
  list_refused stop.Memory w h over l = elim h [ ]

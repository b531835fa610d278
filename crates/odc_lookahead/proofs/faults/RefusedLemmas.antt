-- That the refused forms are those that their first tokens say.
use Rattle.std.proofs.Common.{◌≡◌, ◌⊎◌, inl, inr, ℕ, ◌+◌, ◌<◌, ◌≤◌, nat_lt, ltb, length, get_or, Bool, true, false, IsTrue, arith, List, Option, Some, None, slice_get, IfSome, IfNone, refl, sym, ap, subst}
use Rattle.std.proofs.lemmas.Option.{slice_get_read}
use Rattle.std.proofs.lemmas.Bool.{ltb-true}
use Rattle.std.proofs.lemmas.Bool.Decides.{nat_tests}
use Rattle.odc_text.specs.declared.code.Code.{Code}
use Rattle.odc_text.specs.declared.code.Code.TheVariants.{N10, N12}
use Rattle.odc_syntax.specs.declared.token.Token.{Token}
use Rattle.odc_syntax.specs.declared.token.TokenKind.{TokenKind}
use Rattle.odc_syntax.specs.declared.token.TokenKind.TheVariants as kind
use Rattle.odc_syntax.specs.declared.token.Word.{Word}
use Rattle.odc_syntax.specs.declared.token.Word.TheVariants as word
use Rattle.odc_lookahead.specs.Refused.{Stands, Says, kind_of, word_of, Refused, FirstRefused, NoneRefused, is_directive, float, matrix, map, typeid, transmute, auto_cast, multi_pointer, bit_set, bit_field, using, directive, where_, dot_dot, proc_group, struct_params, union_params, foreign, asm, convention, soa_pointer, address_of_context, when, or_else, or_break, or_continue, question, at_sign, hash_plus, not_in}
use Rattle.odc_lookahead.specs.RefusedForms.{form_of, directive_form, Unconventional, BehindProc, group, text, Refuses, refused_form}

module _ (ts : List Token) (i : ℕ) where
  -- what stands here, of this kind and saying this
  pub record Here (w : Word) (k : TokenKind) : Type 0 where
    pub stands : Stands ts i k
    pub says : Says ts i w

  same_some : {A : Type 0} {o : Option A} {a b : A} → o ≡ Some a → o ≡ Some b → a ≡ b
  same_some p q = cc

  of_kind : {w : Word} {k l : TokenKind} (c : Code) → Here w k → Stands ts i l → Refuses ts i (form_of w l) c → Refuses ts i (form_of w k) c
  of_kind {w} {k} {l} c h s r = subst (λ (x : TokenKind). Refuses ts i (form_of w x) c) (same_some s h.stands) r

  of_word : {w v : Word} {k : TokenKind} (c : Code) → Here w k → Stands ts i kind.Directive → Says ts i v → Refuses ts i (directive_form v) c → Refuses ts i (form_of w k) c
  of_word {w} {v} {k} c h s e r = of_kind c h s (subst (λ (x : Word). Refuses ts i (directive_form x) c) (same_some e h.says) r)

  unknown : (w : Word) → is_directive w ≡ false → Refuses ts i (directive_form w) N10
  unknown word.Soa e = cc
  unknown word.Partial e = cc
  unknown word.Type e = cc
  unknown word.CallerLocation e = cc
  unknown _ e = refl

  pub refused_refuses : {c : Code} {w : Word} {k : TokenKind} → Here w k → Refused ts i c → Refuses ts i (form_of w k) c
  refused_refuses h (float s) = of_kind _ h s refl
  refused_refuses h (matrix s) = of_kind _ h s refl
  refused_refuses h (map s) = of_kind _ h s refl
  refused_refuses h (typeid s n) = of_kind _ h s (refl, n)
  refused_refuses h (transmute s) = of_kind _ h s refl
  refused_refuses h (auto_cast s) = of_kind _ h s refl
  refused_refuses h (multi_pointer s p q) = of_kind _ h s (refl, record { caret = p; close = q })
  refused_refuses h (bit_set s) = of_kind _ h s refl
  refused_refuses h (bit_field s) = of_kind _ h s refl
  refused_refuses h (using s) = of_kind _ h s refl
  refused_refuses h (directive {w = v} s e n) = of_word _ h s e (unknown v n)
  refused_refuses h (where_ s) = of_kind _ h s refl
  refused_refuses h (dot_dot s) = of_kind _ h s refl
  refused_refuses h (proc_group s p) = of_kind _ h s (group p)
  refused_refuses h (struct_params s p) = of_kind _ h s (refl, p)
  refused_refuses h (union_params s p) = of_kind _ h s (refl, p)
  refused_refuses h (foreign s) = of_kind _ h s refl
  refused_refuses h (asm s) = of_kind _ h s refl
  refused_refuses h (convention {w = v} s p e n) = of_kind _ h s (text (record { text = p; said = v; says = e; none = n }))
  refused_refuses h (soa_pointer s e p) = of_word _ h s e (refl, p)
  refused_refuses h (address_of_context s p) = of_kind _ h s (refl, p)
  refused_refuses h (when s) = of_kind _ h s refl
  refused_refuses h (or_else s) = of_kind _ h s refl
  refused_refuses h (or_break s) = of_kind _ h s refl
  refused_refuses h (or_continue s) = of_kind _ h s refl
  refused_refuses h (question s n) = of_kind _ h s (refl, n)
  refused_refuses h (at_sign s) = of_kind _ h s refl
  refused_refuses h (hash_plus s) = of_kind _ h s refl
  refused_refuses h (not_in s) = of_kind _ h s refl

  -- the code of the form
  to : {c d : Code} → c ≡ d → Refused ts i d → Refused ts i c
  to e r = subst (λ (x : Code). Refused ts i x) (sym e) r

  of_directive : (w : Word) (c : Code) → Here w kind.Directive → Refuses ts i (directive_form w) c → Refused ts i c
  of_directive word.Soa c h r = to r.0 (soa_pointer h.stands h.says r.1)
  of_directive word.Partial c h r = absurd r
  of_directive word.Type c h r = absurd r
  of_directive word.CallerLocation c h r = absurd r
  of_directive word.Plain c h r = to r (directive h.stands h.says refl)
  of_directive word.Int c h r = to r (directive h.stands h.says refl)
  of_directive word.Odin c h r = to r (directive h.stands h.says refl)
  of_directive word.Contextless c h r = to r (directive h.stands h.says refl)

  of_proc : {c : Code} → Stands ts i kind.Proc → BehindProc ts (i + 1) c → Refused ts i c
  of_proc s (group p) = proc_group s p
  of_proc s (text u) = convention s u.text u.says u.none

  pub refuses_refused : (k : TokenKind) {w : Word} (c : Code) → Here w k → Refuses ts i (form_of w k) c → Refused ts i c
  refuses_refused kind.Float c h r = to r (float h.stands)
  refuses_refused kind.Matrix c h r = to r (matrix h.stands)
  refuses_refused kind.Map c h r = to r (map h.stands)
  refuses_refused kind.Typeid c h r = to r.0 (typeid h.stands r.1)
  refuses_refused kind.Transmute c h r = to r (transmute h.stands)
  refuses_refused kind.AutoCast c h r = to r (auto_cast h.stands)
  refuses_refused kind.OpenBracket c h r = to r.0 (multi_pointer h.stands r.1.caret r.1.close)
  refuses_refused kind.BitSet c h r = to r (bit_set h.stands)
  refuses_refused kind.BitField c h r = to r (bit_field h.stands)
  refuses_refused kind.Using c h r = to r (using h.stands)
  refuses_refused kind.Directive {w} c h r = of_directive w c h r
  refuses_refused kind.Where c h r = to r (where_ h.stands)
  refuses_refused kind.DotDot c h r = to r (dot_dot h.stands)
  refuses_refused kind.Struct c h r = to r.0 (struct_params h.stands r.1)
  refuses_refused kind.Union c h r = to r.0 (union_params h.stands r.1)
  refuses_refused kind.Proc c h r = of_proc h.stands r
  refuses_refused kind.Foreign c h r = to r (foreign h.stands)
  refuses_refused kind.Asm c h r = to r (asm h.stands)
  refuses_refused kind.Ampersand c h r = to r.0 (address_of_context h.stands r.1)
  refuses_refused kind.When c h r = to r (when h.stands)
  refuses_refused kind.OrElse c h r = to r (or_else h.stands)
  refuses_refused kind.OrBreak c h r = to r (or_break h.stands)
  refuses_refused kind.OrContinue c h r = to r (or_continue h.stands)
  refuses_refused kind.Question c h r = to r.0 (question h.stands r.1)
  refuses_refused kind.At c h r = to r (at_sign h.stands)
  refuses_refused kind.HashPlus c h r = to r (hash_plus h.stands)
  refuses_refused kind.NotIn c h r = to r (not_in h.stands)
  refuses_refused _ c h r = absurd r

  stands_here : (t : Token) → slice_get ts i ≡ Some t → Here t.word t.kind
  stands_here t e = record { stands = ap kind_of e; says = ap word_of e }

  pub begins_refused : (t : Token) (c : Code) → slice_get ts i ≡ Some t → Refuses ts i (refused_form t) c → Refused ts i c
  begins_refused t c e r = refuses_refused t.kind c (stands_here t e) r

  pub is_refused : (t : Token) (c : Code) → slice_get ts i ≡ Some t → Refused ts i c → Refuses ts i (refused_form t) c
  is_refused t c e r = refused_refuses (stands_here t e) r

-- nothing stands past the end
past_end : (ts : List Token) (i : ℕ) {k : TokenKind} → slice_get ts i ≡ None → Stands ts i k → ⊥
past_end ts i e s = cc

pub none_past_end : (ts : List Token) (i : ℕ) → slice_get ts i ≡ None → (c : Code) → Refused ts i c → ⊥
none_past_end ts i o c (float s) = past_end ts i o s
none_past_end ts i o c (matrix s) = past_end ts i o s
none_past_end ts i o c (map s) = past_end ts i o s
none_past_end ts i o c (typeid s n) = past_end ts i o s
none_past_end ts i o c (transmute s) = past_end ts i o s
none_past_end ts i o c (auto_cast s) = past_end ts i o s
none_past_end ts i o c (multi_pointer s p q) = past_end ts i o s
none_past_end ts i o c (bit_set s) = past_end ts i o s
none_past_end ts i o c (bit_field s) = past_end ts i o s
none_past_end ts i o c (using s) = past_end ts i o s
none_past_end ts i o c (directive s e n) = past_end ts i o s
none_past_end ts i o c (where_ s) = past_end ts i o s
none_past_end ts i o c (dot_dot s) = past_end ts i o s
none_past_end ts i o c (proc_group s p) = past_end ts i o s
none_past_end ts i o c (struct_params s p) = past_end ts i o s
none_past_end ts i o c (union_params s p) = past_end ts i o s
none_past_end ts i o c (foreign s) = past_end ts i o s
none_past_end ts i o c (asm s) = past_end ts i o s
none_past_end ts i o c (convention s p e n) = past_end ts i o s
none_past_end ts i o c (soa_pointer s e p) = past_end ts i o s
none_past_end ts i o c (address_of_context s p) = past_end ts i o s
none_past_end ts i o c (when s) = past_end ts i o s
none_past_end ts i o c (or_else s) = past_end ts i o s
none_past_end ts i o c (or_break s) = past_end ts i o s
none_past_end ts i o c (or_continue s) = past_end ts i o s
none_past_end ts i o c (question s n) = past_end ts i o s
none_past_end ts i o c (at_sign s) = past_end ts i o s
none_past_end ts i o c (hash_plus s) = past_end ts i o s
none_past_end ts i o c (not_in s) = past_end ts i o s

pub some_of : (o : Option Code) {P Q : Code → Type 0} → IfSome o P → ((c : Code) → P c → Q c) → IfSome o Q
some_of None h f = h
some_of (Some c) h f = f c h

pub none_of : (o : Option Code) {P Q : Type 0} → IfNone o P → (P → Q) → IfNone o Q
none_of None h f = f h
none_of (Some c) h f = h

pub behind_text : (ts : List Token) (i : ℕ) (b : Bool) (c : Code) → (IsTrue b → Unconventional ts i) → (c ≡ N12) × IsTrue b → BehindProc ts i c
behind_text ts i b c f h = subst (λ (x : Code). BehindProc ts i x) (sym h.0) (text (f h.1))

pub nothing_behind_proc : (ts : List Token) (i : ℕ) (c : Code) → (Stands ts i kind.OpenBrace → ⊥) → (Unconventional ts i → ⊥) → BehindProc ts i c → ⊥
nothing_behind_proc ts i c f g (group s) = f s
nothing_behind_proc ts i c f g (text u) = g u

less_or_same : (i j : ℕ) → i < j + 1 → (i < j) ⊎ (i ≡ j)
less_or_same i j h = elim (nat_lt i j) as (λ b. nat_lt i j ≡ b → (i < j) ⊎ (i ≡ j)) [ true ↦ λ e. inl (grind (arith, nat_tests)) | false ↦ λ e. inr (grind (arith, nat_tests)) ] refl

one_more_at : (ts : List Token) (from at i : ℕ) (c : Code) → from ≤ i → NoneRefused ts from at → ((d : Code) → Refused ts at d → ⊥) → Refused ts i c → (i < at) ⊎ (i ≡ at) → ⊥
one_more_at ts from at i c low h n r (inl less) = h i c low less r
one_more_at ts from at i c low h n r (inr same) = n c (subst (λ (j : ℕ). Refused ts j c) same r)

pub one_more : (ts : List Token) (from at : ℕ) → NoneRefused ts from at → ((c : Code) → Refused ts at c → ⊥) → NoneRefused ts from (at + 1)
one_more ts from at h n i c low high r = one_more_at ts from at i c low h n r (less_or_same i at high)

pub first_one : (ts : List Token) (from end at : ℕ) (c : Code) → from ≤ at → at < end → NoneRefused ts from at → Refused ts at c → FirstRefused ts from end at c
first_one ts from end at c low high h r = record { low = low; high = high; refused = r; first = h }

pub none_up_to : (ts : List Token) (from end at : ℕ) → end ≤ at → NoneRefused ts from at → NoneRefused ts from end
none_up_to ts from end at le h i c low high r = h i c low (omega arith) r

pub found_at : (ts : List Token) (i : ℕ) (t : Token) → true ≡ ltb i (length ts) → t ≡ get_or ts i t → slice_get ts i ≡ Some t
found_at ts i t e r = slice_get_read ts (length ts) i t refl (ltb-true i (length ts) (sym e)) r

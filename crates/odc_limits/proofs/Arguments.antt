-- The arguments of built-in procedures: `len` takes its first one as a place.
use Rattle.std.proofs.Common.{◌≡◌, ◌≢◌, ℕ, ◌+◌, Bool, true, false, refl, ap, ◌∙◌}
use Rattle.odc_program.specs.declared.ops.Builtin.{Builtin}
use Rattle.odc_program.specs.declared.ops.Builtin.TheVariants as b
use Rattle.odc_program.specs.Trees.Tree.{Expr, Exprs, none, more}
use Rattle.odc_program.specs.Typing.Frames.{expr_weight, exprs_weight, arguments_weight}

abbrev pub takes_place : Builtin → Bool
takes_place b.Len = true
takes_place _ = false

takes_value : (which : Builtin) → which ≢ b.Len → takes_place which ≡ false
takes_value b.Print other = refl
takes_value b.Println other = refl
takes_value b.Read other = refl
takes_value b.Write other = refl
takes_value b.Exit other = refl
takes_value b.Len other = absurd (other refl)
takes_value b.Cap other = refl
takes_value b.RawData other = refl
takes_value b.Min other = refl
takes_value b.Max other = refl
takes_value b.Abs other = refl
takes_value b.Copy other = refl
takes_value b.Assert other = refl
takes_value b.Panic other = refl
takes_value b.Clear other = refl
takes_value b.Pop other = refl
takes_value b.OrderedRemove other = refl
takes_value b.UnorderedRemove other = refl
takes_value b.HeapRegion other = refl
takes_value b.TempRegion other = refl
takes_value b.ByteSlice other = refl
takes_value b.New other = refl
takes_value b.Make other = refl
takes_value b.Append other = refl
takes_value b.Reserve other = refl
takes_value b.Resize other = refl
takes_value b.Delete other = refl
takes_value b.Free other = refl
takes_value b.FreeAll other = refl

module _ (w : Bool → ℕ → ℕ) (s : ℕ) where
  pub nothing_weighs : (which : Builtin) → arguments_weight w s which none ≡ 0
  nothing_weighs b.Print = refl
  nothing_weighs b.Println = refl
  nothing_weighs b.Read = refl
  nothing_weighs b.Write = refl
  nothing_weighs b.Exit = refl
  nothing_weighs b.Len = refl
  nothing_weighs b.Cap = refl
  nothing_weighs b.RawData = refl
  nothing_weighs b.Min = refl
  nothing_weighs b.Max = refl
  nothing_weighs b.Abs = refl
  nothing_weighs b.Copy = refl
  nothing_weighs b.Assert = refl
  nothing_weighs b.Panic = refl
  nothing_weighs b.Clear = refl
  nothing_weighs b.Pop = refl
  nothing_weighs b.OrderedRemove = refl
  nothing_weighs b.UnorderedRemove = refl
  nothing_weighs b.HeapRegion = refl
  nothing_weighs b.TempRegion = refl
  nothing_weighs b.ByteSlice = refl
  nothing_weighs b.New = refl
  nothing_weighs b.Make = refl
  nothing_weighs b.Append = refl
  nothing_weighs b.Reserve = refl
  nothing_weighs b.Resize = refl
  nothing_weighs b.Delete = refl
  nothing_weighs b.Free = refl
  nothing_weighs b.FreeAll = refl

  pub first_weighs : (which : Builtin) (e : Expr) (es : Exprs) → arguments_weight w s which (more e es) ≡ expr_weight w s (takes_place which) e + exprs_weight w s es
  first_weighs b.Print e es = refl
  first_weighs b.Println e es = refl
  first_weighs b.Read e es = refl
  first_weighs b.Write e es = refl
  first_weighs b.Exit e es = refl
  first_weighs b.Len e es = refl
  first_weighs b.Cap e es = refl
  first_weighs b.RawData e es = refl
  first_weighs b.Min e es = refl
  first_weighs b.Max e es = refl
  first_weighs b.Abs e es = refl
  first_weighs b.Copy e es = refl
  first_weighs b.Assert e es = refl
  first_weighs b.Panic e es = refl
  first_weighs b.Clear e es = refl
  first_weighs b.Pop e es = refl
  first_weighs b.OrderedRemove e es = refl
  first_weighs b.UnorderedRemove e es = refl
  first_weighs b.HeapRegion e es = refl
  first_weighs b.TempRegion e es = refl
  first_weighs b.ByteSlice e es = refl
  first_weighs b.New e es = refl
  first_weighs b.Make e es = refl
  first_weighs b.Append e es = refl
  first_weighs b.Reserve e es = refl
  first_weighs b.Resize e es = refl
  first_weighs b.Delete e es = refl
  first_weighs b.Free e es = refl
  first_weighs b.FreeAll e es = refl

  pub plain_arguments : (which : Builtin) (es : Exprs) → which ≢ b.Len → arguments_weight w s which es ≡ exprs_weight w s es
  plain_arguments which none other = nothing_weighs which
  plain_arguments which (more e es) other = first_weighs which e es ∙ ap (λ taken. expr_weight w s taken e + exprs_weight w s es) (takes_value which other)

-- How the values of a type lie in memory, and how deep the type is. A layout is a tree; the types of a table unfold to
-- layouts through their parts by value. Behind a pointer, a slice, a dynamic array or a procedure type nothing is unfolded.
use Rattle.std.specs.Prelude.{ℕ, zero, suc, ◌+◌, ◌-◌, ◌*◌, ◌%◌, max, List, [], ◌∷◌, Option, Some, None, IsSome, map, length, slice_get, unwrap_or}
use Rattle.std.specs.Option.{option_and_then, option_map}
use Rattle.odc_types.specs.declared.width.Width.{Width}
use Rattle.odc_types.specs.declared.width.Width.TheVariants as width
use Rattle.odc_types.specs.declared.ty.Field.{Field}
use Rattle.odc_types.specs.declared.ty.SoaForm.TheVariants.{Fixed, Slice, Dyn}
use Rattle.odc_types.specs.Widths.{bytes_of}
use Rattle.odc_types.specs.Nodes as nodes
use Rattle.odc_types.specs.Nodes.{Node, Name}
use Rattle.odc_types.specs.Heights.{height_of_node}

mutual
  pub data Layout : Type 0 where
    scalar : (size : ℕ) (levels : ℕ) → Layout  -- one value, aligned to its own size
    words : (count : ℕ) (levels : ℕ) → Layout  -- so many words of 8 bytes
    array : (count : ℕ) (element : Layout) → Layout
    struct : (fields : Layouts) → Layout
    union : (variants : Layouts) → Layout
    distinct : (base : Layout) → Layout

  pub data Layouts : Type 0 where
    none : Layouts
    more : (first : Layout) (rest : Layouts) → Layouts

-- n and the bytes that are missing to a multiple of a
abbrev pub round_up : ℕ → ℕ → ℕ
round_up n a = n + (a - n % a) % a

abbrev mutual
  pub size : Layout → ℕ
  size (scalar n levels) = n
  size (words n levels) = 8 * n
  size (array n e) = n * size e
  size (struct fs) = round_up (end_of 0 fs) (greatest fs)
  size (union vs) = round_up (widest vs) 8 + 8
  size (distinct l) = size l

  pub align : Layout → ℕ
  align (scalar n levels) = n
  align (words n levels) = 8
  align (array n e) = align e
  align (struct fs) = greatest fs
  align (union vs) = 8
  align (distinct l) = align l

  -- where fields end that follow one another from an offset on, each at a multiple of its alignment
  pub end_of : ℕ → Layouts → ℕ
  end_of at none = at
  end_of at (more f fs) = end_of (round_up at (align f) + size f) fs

  -- the greatest alignment, at least 1
  pub greatest : Layouts → ℕ
  greatest none = 1
  greatest (more f fs) = max (align f) (greatest fs)

  -- the greatest size
  pub widest : Layouts → ℕ
  widest none = 0
  widest (more v vs) = max (size v) (widest vs)

abbrev mutual
  -- how many levels of types there are on the longest way down
  pub depth : Layout → ℕ
  depth (scalar n levels) = levels
  depth (words n levels) = levels
  depth (array n e) = suc (depth e)
  depth (struct fs) = suc (deepest fs)
  depth (union vs) = suc (deepest vs)
  depth (distinct l) = suc (depth l)

  pub deepest : Layouts → ℕ
  deepest none = 0
  deepest (more l ls) = max (depth l) (deepest ls)

-- where the i-th of fields begins that follow one another from an offset on
abbrev pub begin_of : ℕ → Layouts → ℕ → ℕ
begin_of at none i = at
begin_of at (more f fs) zero = round_up at (align f)
begin_of at (more f fs) (suc i) = begin_of (round_up at (align f) + size f) fs i

abbrev pub count_of : Layouts → ℕ
count_of none = 0
count_of (more f fs) = suc (count_of fs)

-- the fields of a struct, or the columns of a fixed `#soa` container, which is a struct of arrays
abbrev pub fields_in : Layout → Layouts
fields_in (struct fs) = fs
fields_in (distinct l) = fields_in l
fields_in _ = none

-- all of them, where each is there
abbrev pub all_of : List (Option Layout) → Option Layouts
all_of [] = Some none
all_of (None ∷ ps) = None
all_of (Some l ∷ ps) = option_map (more l) (all_of ps)

-- the fields of a struct; nothing else has fields
abbrev pub struct_fields : Option Node → Option (List Field)
struct_fields (Some (nodes.struct name fields)) = fields
struct_fields _ = None

-- the type that a type is, where `distinct` is taken off, over what its base is
abbrev pub under_at : (ℕ → Option ℕ) → ℕ → Option Node → Option ℕ
under_at part t None = None
under_at part t (Some (nodes.distinct name (Some b))) = part b.index
under_at part t (Some n) = Some t

-- the same, `distinct` taken off so many times at most
abbrev pub under : List Node → ℕ → ℕ → Option ℕ
under types zero t = None
under types (suc k) t = under_at (under types k) t (slice_get types t)

abbrev pub under_of : List Node → ℕ → Option ℕ
under_of types t = under types (length types) t

-- the fields of a struct, also of a distinct one
unfoldable pub fields_of : List Node → ℕ → Option (List Field)
fields_of types t = option_and_then (λ p. struct_fields (slice_get types p)) (under_of types t)

-- one value, or an array of so many
abbrev pub wide : Option ℕ → Layout → Option Layout
wide None l = Some l
wide (Some n) l = Some (array n l)

-- a column of a fixed `#soa` container is an array of one field's values; a struct has one value of each field
abbrev pub column : (ℕ → Option Layout) → Option ℕ → ℕ → Option Layout
column part None t = part t
column part (Some n) t = option_map (array n) (part t)

-- a struct of columns
abbrev pub columns : (ℕ → Option Layout) → Option ℕ → List Field → Option Layout
columns part count fs = option_map struct (all_of (map (λ f. column part count f.ty.index) fs))

abbrev pub integer_of : Option Width → Width
integer_of None = width.Int
integer_of (Some w) = w

-- no distinct type that has its base
abbrev pub IsPlain : Node → Type 0
IsPlain (nodes.distinct name (Some b)) = ⊥
IsPlain _ = Unit {0}

-- the layout of a node over the layouts of its parts
abbrev pub layout_of_node : List Node → (ℕ → Option Layout) → Node → Option Layout
layout_of_node types part nodes.truth = Some (scalar 1 1)
layout_of_node types part (nodes.integer w) = Some (scalar (bytes_of w) 1)
layout_of_node types part nodes.rune = Some (scalar 4 1)
layout_of_node types part nodes.text = Some (words 2 1)
layout_of_node types part nodes.rawptr = Some (scalar 8 1)
layout_of_node types part (nodes.pointer to) = Some (scalar 8 (height_of_node types (nodes.pointer to)))
layout_of_node types part (nodes.array n of) = option_map (array n) (part of.index)
layout_of_node types part (nodes.slice of) = Some (words 2 (height_of_node types (nodes.slice of)))
layout_of_node types part (nodes.dynamic of) = Some (words 5 (height_of_node types (nodes.dynamic of)))
layout_of_node types part (nodes.soa (Fixed n) of) = option_and_then (columns part (Some n)) (fields_of types of.index)
layout_of_node types part (nodes.soa Slice of) = option_map (λ fs. words (length fs + 1) (height_of_node types (nodes.soa Slice of))) (fields_of types of.index)
layout_of_node types part (nodes.soa Dyn of) = option_map (λ fs. words (length fs + 4) (height_of_node types (nodes.soa Dyn of))) (fields_of types of.index)
layout_of_node types part (nodes.struct name None) = None
layout_of_node types part (nodes.struct name (Some fs)) = columns part None fs
layout_of_node types part (nodes.union name None) = None
layout_of_node types part (nodes.union name (Some vs)) = option_map union (all_of (map (λ v. part v.index) vs))
layout_of_node types part (nodes.enum name base None) = None
layout_of_node types part (nodes.enum name base (Some es)) = Some (scalar (bytes_of (integer_of base)) 1)
layout_of_node types part (nodes.distinct name None) = None
layout_of_node types part (nodes.distinct name (Some b)) = option_map distinct (part b.index)
layout_of_node types part (nodes.procedure convention params results) = Some (scalar 8 (height_of_node types (nodes.procedure convention params results)))

-- a type unfolded so many levels deep
abbrev pub layout : List Node → ℕ → ℕ → Option Layout
layout types zero t = None
layout types (suc k) t = option_and_then (layout_of_node types (layout types k)) (slice_get types t)

-- a type whose parts by value come to an end unfolds in as many levels as there are types
abbrev pub layout_of : List Node → ℕ → Option Layout
layout_of types t = layout types (length types) t

abbrev pub HasSize : List Node → ℕ → Type 0
HasSize types t = IsSome (layout_of types t)

abbrev pub size_of : List Node → ℕ → ℕ
size_of types t = unwrap_or (option_map size (layout_of types t)) 0

abbrev pub align_of : List Node → ℕ → ℕ
align_of types t = unwrap_or (option_map align (layout_of types t)) 1

abbrev pub field_count : List Node → ℕ → ℕ
field_count types t = unwrap_or (option_map (λ l. count_of (fields_in l)) (layout_of types t)) 0

abbrev pub offset_of : List Node → ℕ → ℕ → ℕ
offset_of types t i = unwrap_or (option_map (λ l. begin_of 0 (fields_in l) i) (layout_of types t)) 0

-- A program: tables, and the bodies of its procedures. A pass that changes bodies leaves the tables as they are, but for
-- what it adds behind them.
use Rattle.std.specs.Prelude.{ℕ, ℤ, Bool, List, Option}
use Rattle.odc_text.specs.declared.place.Place.{Place}
use Rattle.odc_types.specs.declared.width.Width.{Width}
use Rattle.odc_program.specs.States.Bytes.{Value}
use Rattle.odc_program.specs.Trees.Tree.{Stmts}

-- ---- the table of types
-- a field of a struct, and where it lies
pub record Part : Type 0 where
  pub offset : ℕ
  pub ty : ℕ

pub record Enumerator : Type 0 where
  pub value : ℤ
  pub name : List ℕ

-- what kind of type it is; a distinct type has the shape of its base
pub data Shape : Type 0 where
  truth : Shape
  whole : (width : Width) → Shape
  rune : Shape
  text : Shape
  raw : Shape
  address : (target : ℕ) → Shape
  array : (element count : ℕ) → Shape
  slice : (element : ℕ) → Shape
  dynamic : (element : ℕ) → Shape
  -- `#soa` containers over a struct
  soa_array : (record_ count : ℕ) → Shape
  soa_slice : (record_ : ℕ) → Shape
  soa_dynamic : (record_ : ℕ) → Shape
  fields : (parts : List Part) → Shape
  -- a union: where its tag lies, and its variants
  variants : (tag : ℕ) (tys : List ℕ) → Shape
  -- an enum
  names : (width : Width) (list : List Enumerator) → Shape
  procedure : (odin : Bool) (parameters results : List ℕ) → Shape
  -- what an expression gives that has none or several values: their bytes in a row
  several : (tys : List ℕ) → Shape

-- What tells a struct, union, enum or distinct type from every other: where its text stands, and the instance around it,
-- which is the types and numbers that the `$` parameters of the procedures around it have there.
pub record Name : Type 0 where
  pub at : Place
  pub types : List ℕ
  pub numbers : List ℤ

pub record Ty : Type 0 where
  pub size : ℕ
  pub align : ℕ
  -- the type itself, or what a distinct one stands for
  pub base : ℕ
  -- None for a type that is told by its shape
  pub name : Option Name
  pub shape : Shape

-- ---- procedures
pub record Local : Type 0 where
  pub ty : ℕ
  -- its first byte, from the low end of the frame on
  pub place : ℕ

-- a procedure's text, with the types and numbers of its `$` parameters
pub record Instance : Type 0 where
  pub proc : ℕ
  pub types : List ℕ
  pub numbers : List ℤ

-- all of a procedure but its body
pub record Head : Type 0 where
  pub instance : Instance
  pub name : List ℕ
  -- its `proc` word
  pub at : Place
  -- the literal that holds its bare name, for locations
  pub literal : ℕ
  pub has_context : Bool
  pub ty : ℕ
  -- the first locals are the parameters, the next ones the results
  pub parameters : ℕ
  pub results : ℕ
  pub locals : List Local
  pub frame : ℕ
  -- the procedures that it calls or names
  pub needs : List ℕ

pub record Global : Type 0 where
  -- where its name stands in the text
  pub place : Place
  -- the address of its first byte
  pub at : ℕ
  pub ty : ℕ
  pub first : Value

pub record Literal : Type 0 where
  -- of the constant that it is the text of; of a file's path, its file with line and column 0; of a procedure's name, its
  -- `proc` word
  pub place : Place
  -- the address of its first byte
  pub at : ℕ
  pub bytes : List ℕ

pub record Tables : Type 0 where
  pub types : List Ty
  pub globals : List Global
  pub literals : List Literal
  pub procedures : List Head
  -- the paths of the files, by their numbers
  pub paths : List (List ℕ)
  -- the literal that holds the first file's path; those of the other files come behind it
  pub files : ℕ
  -- the allocator procedures of the runtime library, where they are there: of the heap and of temporary memory
  pub heap : Option ℕ
  pub temp : Option ℕ
  -- the type of allocator procedures
  pub allocator : ℕ

-- Code of the compiler's own beside a procedure. It is called without a turn, a serial number, a frame or a stack check,
-- and its locals lie in the last 128 bytes of its caller's frame.
pub record Helper : Type 0 where
  pub head : Head
  pub body : Stmts

pub record Body : Type 0 where
  pub stmts : Stmts
  -- a helper calls those behind it alone
  pub helpers : List Helper

pub record Program : Type 0 where
  pub tables : Tables
  pub bodies : List Body
  pub main : ℕ

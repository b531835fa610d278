-- Words to write small programs in, for closed runs.
use Rattle.std.specs.Prelude.{ℕ, ◌+◌, ◌*◌, ◌++◌, ℤ, pos, Bool, true, false, List, [], ◌∷◌, length, Option, Some, None, codes}
use Rattle.odc_text.specs.declared.place.Place.{Place}
use Rattle.odc_types.specs.declared.width.Width.TheVariants as width
use Rattle.odc_program.specs.declared.ops.Constant.TheVariants as con
use Rattle.odc_program.specs.declared.ops.BinaryOp.{BinaryOp}
use Rattle.odc_program.specs.declared.ops.Builtin.{Builtin}
use Rattle.odc_program.specs.declared.ops.Taken.{Taken}
use Rattle.odc_program.specs.declared.ops.Builtin.TheVariants.{Println}
use Rattle.odc_program.specs.States.Bytes.{Value, zeros, int_bytes}
use Rattle.odc_program.specs.Trees.Tree as t
use Rattle.odc_program.specs.Trees.Program.{Part, Enumerator, Shape, truth, whole, rune, text, raw, address, array, slice, dynamic, soa_array, soa_slice, soa_dynamic, fields, variants, names, procedure, several, Name, Ty, Local, Instance, Head, Global, Literal, Body, Program}

-- a place in column n of the only file's fourth line
abbrev pub at : ℕ → Place
at n = record { file = record { number = 0 }; line = 4; column = n }

-- ---- the types that the programs use
abbrev pub entry : ℕ → ℕ → ℕ → Shape → Ty
entry size align base shape = record { size = size; align = align; base = base; name = None; shape = shape }

abbrev pub one : ℕ → ℕ → Shape → Ty
one size base shape = entry size size base shape

abbrev pub words : ℕ → ℕ → Shape → Ty
words n base shape = entry (8 * n) 8 base shape

-- a row whose type has a name, in column n of the file's second line
abbrev pub name_at : ℕ → Name
name_at n = record { at = record { file = record { number = 0 }; line = 2; column = n }; types = []; numbers = [] }

abbrev pub with_name : ℕ → Ty → Ty
with_name n r = record r { name = Some (name_at n) }

abbrev pub field_at : ℕ → ℕ → Part
field_at offset ty = record { offset = offset; ty = ty }

abbrev pub named : ℕ → List ℕ → Enumerator
named n name = record { value = pos n; name = name }

abbrev pub Int : ℕ
Int = 0

abbrev pub Bool_ : ℕ
Bool_ = 1

abbrev pub Text : ℕ
Text = 2

abbrev pub IntPointer : ℕ
IntPointer = 3

-- a union of `int` and `string`
abbrev pub Either : ℕ
Either = 4

-- a procedure without parameters and results
abbrev pub Plain : ℕ
Plain = 5

abbrev pub ContextType : ℕ
ContextType = 6

abbrev pub IntArray : ℕ
IntArray = 7

abbrev pub ByteSlice_ : ℕ
ByteSlice_ = 8

abbrev pub Byte_ : ℕ
Byte_ = 9

-- what an allocator answers
abbrev pub Answered : ℕ
Answered = 10

abbrev pub Buffer : ℕ
Buffer = 11

abbrev pub Location : ℕ
Location = 12

abbrev pub Allocator : ℕ
Allocator = 13

abbrev pub IntError : ℕ
IntError = 14

abbrev pub Error : ℕ
Error = 15

abbrev pub Three : ℕ
Three = 16

abbrev pub I8 : ℕ
I8 = 17

abbrev pub I64 : ℕ
I64 = 18

abbrev pub Raw : ℕ
Raw = 19

-- a struct of a `u8` and an `i64`
abbrev pub Rec : ℕ
Rec = 20

abbrev pub SoaThree : ℕ
SoaThree = 21

abbrev pub SoaArray : ℕ
SoaArray = 22

abbrev pub SoaSlice : ℕ
SoaSlice = 23

abbrev pub Rune : ℕ
Rune = 24

abbrev pub AllocatorProc : ℕ
AllocatorProc = 25

abbrev pub IntSlice : ℕ
IntSlice = 26

abbrev pub Nothing : ℕ
Nothing = 27

abbrev pub ToIntArray : ℕ
ToIntArray = 28

abbrev pub ToSoaArray : ℕ
ToSoaArray = 29

abbrev pub U64 : ℕ
U64 = 30

-- what `os.read` and `os.write` answer
abbrev pub FileAnswer : ℕ
FileAnswer = 31

abbrev pub FileError : ℕ
FileError = 32

abbrev pub IntColumn : ℕ
IntColumn = 33

abbrev pub SliceError : ℕ
SliceError = 34

abbrev pub IntBool : ℕ
IntBool = 35

-- a distinct `int`
abbrev pub Own : ℕ
Own = 36

abbrev pub PointerError : ℕ
PointerError = 37

abbrev pub EitherArray : ℕ
EitherArray = 38

abbrev pub IntProc : ℕ
IntProc = 39

abbrev pub TextBool : ℕ
TextBool = 40

abbrev pub I32 : ℕ
I32 = 41

-- a procedure that answers an `int`
abbrev pub Teller : ℕ
Teller = 42

-- one that answers an error
abbrev pub Failing : ℕ
Failing = 43

-- one that answers a pointer
abbrev pub Pointing : ℕ
Pointing = 44

-- one without a context that answers an error
abbrev pub Contextless : ℕ
Contextless = 45

-- one that answers a `bool`
abbrev pub Truthful : ℕ
Truthful = 46

-- pointers
abbrev pub BytePointer : ℕ
BytePointer = 47

abbrev pub BoolPointer : ℕ
BoolPointer = 48

abbrev pub RecPointer : ℕ
RecPointer = 49

-- an array of one truth value, and pointers to it
abbrev pub Bools : ℕ
Bools = 50

abbrev pub BoolsPointer : ℕ
BoolsPointer = 51

-- `proc(x, y: int) -> int`
abbrev pub Subtracting : ℕ
Subtracting = 52

-- a pointer to a procedure value
abbrev pub ToIntProc : ℕ
ToIntProc = 53

abbrev pub LongSlice : ℕ
LongSlice = 54

-- a procedure that takes an array
abbrev pub TakesThree : ℕ
TakesThree = 55

abbrev pub types : List Ty
types =
    one 8 Int (whole width.Int) ∷
    one 1 Bool_ truth ∷
    words 2 Text text ∷
    words 1 IntPointer (address Int) ∷
    with_name Either (words 3 Either (variants 16 (Int ∷ Text ∷ []))) ∷
    words 1 Plain (procedure true [] []) ∷
    with_name ContextType (words 6 ContextType (fields (field_at 0 Allocator ∷ field_at 16 Allocator ∷ field_at 32 Raw ∷ field_at 40 Int ∷ []))) ∷
    words 5 IntArray (dynamic Int) ∷
    words 2 ByteSlice_ (slice Byte_) ∷
    one 1 Byte_ (whole width.U8) ∷
    entry 17 8 Answered (several (ByteSlice_ ∷ Error ∷ [])) ∷
    entry 256 1 Buffer (array Byte_ 256) ∷
    with_name Location (words 5 Location (fields (field_at 0 Text ∷ field_at 16 I32 ∷ field_at 20 I32 ∷ field_at 24 Text ∷ []))) ∷
    with_name Allocator (words 2 Allocator (fields (field_at 0 AllocatorProc ∷ field_at 8 Raw ∷ []))) ∷
    entry 9 8 IntError (several (Int ∷ Error ∷ [])) ∷
    with_name Error (one 1 Error (names width.U8 (named 0 (codes "None") ∷ named 1 (codes "Out_Of_Memory") ∷ named 2 (codes "Invalid_Pointer") ∷ named 3 (codes "Invalid_Argument") ∷ named 4 (codes "Mode_Not_Implemented") ∷ []))) ∷
    words 3 Three (array Int 3) ∷
    one 1 I8 (whole width.I8) ∷
    one 8 I64 (whole width.I64) ∷
    words 1 Raw raw ∷
    with_name Rec (words 2 Rec (fields (field_at 0 Byte_ ∷ field_at 8 I64 ∷ []))) ∷
    words 4 SoaThree (soa_array Rec 3) ∷
    words 6 SoaArray (soa_dynamic Rec) ∷
    words 3 SoaSlice (soa_slice Rec) ∷
    one 4 Rune rune ∷
    words 1 AllocatorProc (procedure true (Raw ∷ Byte_ ∷ Int ∷ Int ∷ Raw ∷ Int ∷ Location ∷ []) (ByteSlice_ ∷ Error ∷ [])) ∷
    words 2 IntSlice (slice Int) ∷
    words 0 Nothing (several []) ∷
    words 1 ToIntArray (address IntArray) ∷
    words 1 ToSoaArray (address SoaArray) ∷
    one 8 U64 (whole width.U64) ∷
    words 2 FileAnswer (several (Int ∷ FileError ∷ [])) ∷
    with_name FileError (one 8 FileError (names width.Int (named 0 (codes "None") ∷ named 1 (codes "Invalid_File") ∷ []))) ∷
    words 3 IntColumn (array I64 3) ∷
    entry 17 8 SliceError (several (IntSlice ∷ Error ∷ [])) ∷
    entry 9 8 IntBool (several (Int ∷ Bool_ ∷ [])) ∷
    with_name Own (one 8 Int (whole width.Int)) ∷
    entry 9 8 PointerError (several (IntPointer ∷ Error ∷ [])) ∷
    words 9 EitherArray (array Either 3) ∷
    words 1 IntProc (procedure true (Int ∷ []) (Int ∷ [])) ∷
    entry 17 8 TextBool (several (Text ∷ Bool_ ∷ [])) ∷
    one 4 I32 (whole width.I32) ∷
    words 1 Teller (procedure true [] (Int ∷ [])) ∷
    words 1 Failing (procedure true [] (Error ∷ [])) ∷
    words 1 Pointing (procedure true [] (IntPointer ∷ [])) ∷
    words 1 Contextless (procedure false [] (Error ∷ [])) ∷
    words 1 Truthful (procedure true [] (Bool_ ∷ [])) ∷
    words 1 BytePointer (address Byte_) ∷
    words 1 BoolPointer (address Bool_) ∷
    words 1 RecPointer (address Rec) ∷
    one 1 Bools (array Bool_ 1) ∷
    words 1 BoolsPointer (address Bools) ∷
    words 1 Subtracting (procedure true (Int ∷ Int ∷ []) (Int ∷ [])) ∷
    words 1 ToIntProc (address IntProc) ∷
    words 2 LongSlice (slice I64) ∷
    words 1 TakesThree (procedure true (Three ∷ []) []) ∷
    []

-- ---- nodes; a constant and a name stand in column 1, others where they say
abbrev pub num : ℕ → t.Expr
num n = t.expr Int (at 1) (t.const (con.Int (pos n)))

abbrev pub of_type : ℕ → ℤ → t.Expr
of_type ty z = t.expr ty (at 1) (t.const (con.Int z))

abbrev pub bool : Bool → t.Expr
bool b = t.expr Bool_ (at 1) (t.const (con.Bool b))

abbrev pub str : ℕ → ℕ → t.Expr
str n l = t.expr Text (at 1) (t.const (con.Text n l))

abbrev pub nil_of : ℕ → t.Expr
nil_of ty = t.expr ty (at 1) (t.const con.Nil)

abbrev pub loc : ℕ → ℕ → t.Expr
loc ty x = t.expr ty (at 1) (t.local x)

abbrev pub glob : ℕ → ℕ → t.Expr
glob ty g = t.expr ty (at 1) (t.global_ g)

abbrev pub node : ℕ → ℕ → t.Kind → t.Expr
node ty column k = t.expr ty (at column) k

abbrev pub args : List t.Expr → t.Exprs
args [] = t.none
args (e ∷ es) = t.more e (args es)

abbrev pub calls : ℕ → Builtin → ℕ → List t.Expr → t.Expr
calls ty which column es = node ty column (t.builtin which [] (args es))

abbrev pub bin : ℕ → BinaryOp → ℕ → t.Expr → t.Expr → t.Expr
bin ty op column a b = node ty column (t.binary op a b)

abbrev pub field : ℕ → t.Expr → ℕ → t.Expr
field ty e n = node ty 2 (t.field e n)

abbrev pub elem : ℕ → ℕ → t.Expr → t.Expr → t.Expr
elem ty column e i = node ty column (t.index e i)

abbrev pub part : ℕ → t.Expr → t.Parts → t.Parts
part d e ps = t.part d e ps

abbrev pub rec_of : ℕ → ℕ → t.Expr
rec_of a b = node Rec 1 (t.build None (t.part 0 (of_type Byte_ (pos a)) (t.part 8 (of_type I64 (pos b)) t.no_parts)))

abbrev pub context_index : t.Expr
context_index = field Int (node ContextType 1 t.context) 3

-- a part of a value of several as it is taken
abbrev pub taken : ℕ → Taken
taken t = record { from = record { index = t }; into = record { index = t }; variant = None }

-- one that becomes a variant of a union
abbrev pub taken_as : ℕ → ℕ → ℕ → Taken
taken_as t u variant = record { from = record { index = t }; into = record { index = u }; variant = Some variant }

-- ---- statements, each in column 3
abbrev pub st : t.Form → t.Stmt
st k = t.stmt (at 3) k

abbrev pub block_of : List t.Stmt → t.Stmts
block_of [] = t.finish
block_of (s ∷ ss) = t.follow s (block_of ss)

abbrev pub show : List t.Expr → t.Stmt
show es = st (t.eval (calls Nothing Println 5 es))

abbrev pub let_ : ℕ → t.Expr → t.Stmt
let_ x e = st (t.declare (Some x ∷ []) (t.each (args (e ∷ []))))

abbrev pub zero : ℕ → t.Stmt
zero x = st (t.declare (Some x ∷ []) t.nothing)

abbrev pub set : t.Expr → t.Expr → t.Stmt
set e v = st (t.assign (t.left_ e t.no_lefts) (t.each (args (v ∷ []))))

abbrev pub call : ℕ → ℕ → List t.Expr → t.Expr
call ty need es = node ty 8 (t.call need [] (args es))

abbrev pub do_ : t.Expr → t.Stmt
do_ e = st (t.eval e)

abbrev pub give : List t.Expr → t.Stmt
give es = st (t.return (t.each (args es)))

abbrev pub when : t.Expr → List t.Stmt → t.Stmt
when e body = st (t.if_ t.no_stmt e (block_of body) t.finish)

-- ---- procedures
abbrev pub at_place : ℕ → ℕ → Local
at_place ty place = record { ty = ty; place = place }

abbrev pub plain_instance : ℕ → Instance
plain_instance n = record { proc = n; types = []; numbers = [] }

pub record Proc : Type 0 where
  pub head : Head
  pub body : Body

-- a procedure of this type with so many parameters and results
abbrev pub proc : ℕ → ℕ → ℕ → List Local → List ℕ → List t.Stmt → Proc
proc ty ps rs locals needs body = record {
  head = record { instance = plain_instance 0; name = codes "main.f"; at = at 9; literal = 0; has_context = true; ty = ty; parameters = ps; results = rs; locals = locals; frame = 4096; needs = needs };
  body = record { stmts = block_of body; helpers = [] };
}

abbrev pub main : List Local → List ℕ → List t.Stmt → Proc
main locals needs body = proc Plain 0 0 locals needs body

-- each is an instance of its own
abbrev pub heads_from : ℕ → ℕ → List Proc → List Head
heads_from n literal [] = []
heads_from n literal (p ∷ ps) = record p.head { instance = plain_instance n; at = at (9 + 100 * n); literal = literal } ∷ heads_from (n + 1) literal ps

-- and each global stands in a column of its own
abbrev pub globals_from : ℕ → List Global → List Global
globals_from n [] = []
globals_from n (g ∷ gs) = record g { place = at n } ∷ globals_from (n + 1) gs

abbrev pub bodies : List Proc → List Body
bodies [] = []
bodies (p ∷ ps) = p.body ∷ bodies ps

-- a literal; the first one's bytes stand at the end of the globals, here at one address for all
abbrev pub lit : List ℕ → Literal
lit bytes = record { place = at 1; at = 1342177280; bytes = bytes }

abbrev pub glob_of : ℕ → Value → Global
glob_of ty v = record { place = at 1; at = 1342177280; ty = ty; first = v }

-- behind the literals of the program stand the path of its file and the name of its procedures
abbrev pub path : List ℕ
path = codes "main.odin"

-- globals, literals, and the procedure that the first context has as its allocator
abbrev pub with_all : List Global → List Literal → Option ℕ → List Proc → Program
with_all gs ls heap ps = record {
  tables = record { types = types; globals = globals_from 1 gs; literals = ls ++ (lit path ∷ lit (codes "f") ∷ []); procedures = heads_from 0 (length ls + 1) ps; paths = path ∷ []; files = length ls; heap = heap; temp = None; allocator = AllocatorProc };
  bodies = bodies ps;
  main = 0;
}

abbrev pub with_texts : List (List ℕ) → List Literal
with_texts [] = []
with_texts (s ∷ ss) = lit s ∷ with_texts ss

-- a program of these procedures, without globals and texts, whose context is zero
abbrev pub program : List Proc → Program
program ps = with_all [] [] None ps

abbrev pub saying : List (List ℕ) → List Proc → Program
saying texts ps = with_all [] (with_texts texts) None ps

-- a global of three integers, and one of 256 bytes
abbrev pub three : Global
three = glob_of Three (int_bytes 8 (pos 10) ++ int_bytes 8 (pos 20) ++ int_bytes 8 (pos 30))

abbrev pub buffer : Global
buffer = glob_of Buffer (zeros 256)

-- the parameters, results and types of an allocator procedure
abbrev pub allocator_locals : List Local
allocator_locals = at_place Raw 128 ∷ at_place Byte_ 144 ∷ at_place Int 160 ∷ at_place Int 176 ∷ at_place Raw 192 ∷ at_place Int 208 ∷ at_place Location 224 ∷ at_place ByteSlice_ 272 ∷ at_place Error 296 ∷ []

-- an allocator that answers as many bytes as are asked for, from the begin of global g: a call costs 28 and its turn is in it
abbrev pub allocator_of : ℕ → Proc
allocator_of g = proc AllocatorProc 7 2 allocator_locals []
    (give (node ByteSlice_ 40 (t.cut (glob Buffer g) (t.present (num 0)) (t.present (loc Int 2))) ∷ of_type Error (pos 0) ∷ []) ∷ [])

-- one that answers a byte less than it is asked for: a call costs 28
abbrev pub short_of : ℕ → Proc
short_of g = proc AllocatorProc 7 2 allocator_locals []
    (give (node ByteSlice_ 40 (t.cut (glob Buffer g) (t.present (num 1)) (t.present (loc Int 2))) ∷ of_type Error (pos 0) ∷ []) ∷ [])

-- one that has no memory: a call costs 24
abbrev pub refuser : Proc
refuser = proc AllocatorProc 7 2 allocator_locals [] (give (nil_of ByteSlice_ ∷ of_type Error (pos 1) ∷ []) ∷ [])

abbrev pub address_of : ℕ → t.Expr → t.Expr
address_of ty e = node ty 50 (t.address_ e)

-- a procedure that prints a number and answers another: a call costs 12
abbrev pub telling : ℕ → ℕ → Proc
telling n k = proc Teller 0 1 (at_place Int 128 ∷ []) [] (show (num n ∷ []) ∷ give (num k ∷ []) ∷ [])

-- Small programs: containers in columns that are dynamic or cut.
use Rattle.std.specs.Prelude.{ℕ, ◌++◌, pos, [], ◌∷◌, None}
use Rattle.odc_program.specs.declared.ops.Builtin.TheVariants as b
use Rattle.odc_program.specs.States.Bytes.{numbers, zeros}
use Rattle.odc_program.specs.Trees.Tree as t
use Rattle.odc_program.specs.Trees.Program.{Global, Program}
use Rattle.odc_program.specs.Rows.Writing.{Int, IntPointer, Byte_, Buffer, I64, Rec, SoaArray, SoaSlice, IntSlice, Nothing, num, loc, glob, node, calls, field, elem, rec_of, show, let_, set, do_, at_place, main, with_all, glob_of, address_of}
use Rattle.odc_program.specs.Rows.Third.{longs, d, to_d, b_of, a_of, soa_len}

-- ---- three records over a global: 1, 2, 3 in the first column and 10, 20, 30 in the second
abbrev pub three_records : Global
three_records = glob_of Buffer (numbers (1 ∷ 2 ∷ 3 ∷ []) ++ zeros 5 ++ longs (pos 10 ∷ pos 20 ∷ pos 30 ∷ []) ++ zeros 224)

-- a dynamic array whose second column begins at a byte of the global: 26 to declare it
abbrev pub array_at : ℕ → ℕ → t.Expr
array_at column n = node SoaArray 20 (t.build None (
    t.part 0 (address_of IntPointer (glob Buffer 0)) (t.part 8 (address_of IntPointer (elem Byte_ 23 (glob Buffer 0) (num column))) (t.part 16 (num n) (t.part 24 (num n) t.no_parts)))))

abbrev pub on_records : ℕ → ℕ → t.Stmts → Program
on_records column n body = with_all (three_records ∷ []) [] None (
    record (main (at_place SoaArray 128 ∷ at_place Rec 176 ∷ at_place SoaSlice 200 ∷ []) [] []) { body = record { stmts = t.follow (let_ 0 (array_at column n)) body; helpers = [] } } ∷ [])

abbrev pub then_show : t.Stmt → t.Stmt → t.Stmts
then_show s u = t.follow s (t.follow u t.finish)

-- `ordered_remove(&d, 0)`, and what is left: 17 and 32
abbrev pub removes : Program
removes = on_records 8 3 (then_show (do_ (calls Nothing b.OrderedRemove 70 (to_d ∷ num 0 ∷ []))) (show (a_of 0 ∷ b_of 1 ∷ soa_len ∷ [])))

-- `unordered_remove(&d, 0)`: 15 and 32
abbrev pub removes_unordered : Program
removes_unordered = on_records 8 3 (then_show (do_ (calls Nothing b.UnorderedRemove 70 (to_d ∷ num 0 ∷ []))) (show (a_of 0 ∷ b_of 1 ∷ soa_len ∷ [])))

-- `r := pop(&d); println(r.b, len(d))`: 14 and 15
abbrev pub pops : Program
pops = on_records 8 3 (then_show (let_ 1 (calls Rec b.Pop 70 (to_d ∷ []))) (show (field I64 (loc Rec 1) 1 ∷ soa_len ∷ [])))

-- `s := d[1:]; println(s.b[0], len(s))`: 12 and 21
abbrev pub cuts : Program
cuts = on_records 8 3 (then_show (let_ 2 (node SoaSlice 63 (t.cut d (t.present (num 1)) t.absent)))
    (show (elem I64 61 (node IntSlice 62 (t.column (loc SoaSlice 2) 1)) (num 0) ∷ calls Int b.Len 62 (loc SoaSlice 2 ∷ []) ∷ [])))

-- `println(copy(d[:2], d[1:])); println(d[0].a, d.b[1])`: the bytes go as if through a copy: 29 and 25
abbrev pub copies : Program
copies = on_records 8 3 (then_show (show (calls Int b.Copy 70 (node SoaSlice 63 (t.cut d t.absent (t.present (num 2))) ∷ node SoaSlice 63 (t.cut d (t.present (num 1)) t.absent) ∷ []) ∷ []))
    (show (a_of 0 ∷ b_of 1 ∷ [])))

-- the second column begins at the global's last byte: its second element has no address, and the place of the assignment is
-- not found: 14
abbrev pub place_not_found : Program
place_not_found = on_records 255 2 (t.follow (set (elem Rec 60 d (num 1)) (rec_of 1 2)) t.finish)

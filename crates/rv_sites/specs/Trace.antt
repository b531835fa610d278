-- The line that tells a call of an allocator.
use Rattle.std.specs.Prelude.{ℕ, ℤ, false, pos, negsuc, ◌==◌, List, [], ◌∷◌, ◌++◌, codes, if◌then◌else◌}
use Rattle.std.specs.Fmt.{digits, signed_decimal}
use Rattle.odc_text.specs.Run.{Call}
use Rattle.odc_text.specs.declared.outcome.CallEvent.{CallEvent}
use Rattle.rv_sites.specs.declared.sites.ProcedureName.{ProcedureName}

-- a call as the log has it
abbrev pub call_of : CallEvent → Call ℕ ℕ
call_of e = record { procedure = e.procedure; given = e.given; mode = e.mode; size = e.size; align = e.align; old = e.old; old_size = e.old_size }

-- a number to base 16, in lower case and without leading zeros
abbrev pub hexadecimal : ℕ → List ℕ
hexadecimal n = codes "0x" ++ digits 16 false n

-- the name of the first procedure that is listed with this address, or the address
abbrev pub procedure_text : List ProcedureName → ℕ → List ℕ
procedure_text [] address = hexadecimal address
procedure_text (n ∷ ns) address = if n.entry == address then n.name else procedure_text ns address

abbrev pub mode_name : ℕ → List ℕ
mode_name n =
    if n == 0 then codes "Alloc" else (if n == 1 then codes "Free" else (if n == 2 then codes "Free_All" else (if n == 3 then codes "Resize"
    else (if n == 4 then codes "Query_Features" else (if n == 5 then codes "Query_Info" else signed_decimal (pos n))))))

-- the name of a mode, or its number
abbrev pub mode_text : ℤ → List ℕ
mode_text (pos n) = mode_name n
mode_text (negsuc n) = signed_decimal (negsuc n)

-- what follows the procedure: what is asked for, and the old memory
abbrev pub request_text : Call ℕ ℕ → List ℕ
request_text c =
    codes " data=" ++ (hexadecimal c.given ++ (codes " " ++ (mode_text c.mode ++ (codes " size=" ++ (signed_decimal c.size ++ (codes " align=" ++ signed_decimal c.align))))))

abbrev pub old_text : ℕ → List ℕ
old_text address = codes " old=" ++ hexadecimal address

abbrev pub old_size_text : ℤ → List ℕ
old_size_text size = codes " old_size=" ++ signed_decimal size

-- `alloc PROC data=0xH MODE size=N align=N old=0xH old_size=N`, and the end of the line
abbrev pub trace_text : List ProcedureName → Call ℕ ℕ → List ℕ
trace_text names c = ((((codes "alloc " ++ procedure_text names c.procedure) ++ request_text c) ++ old_text c.old) ++ old_size_text c.old_size) ++ 10 ∷ []

-- What `fmt.print` and `fmt.println` write, piece by piece.
use Rattle.std.specs.Prelude.{ℕ, zero, suc, ◌+◌, ◌/◌, ◌%◌, ◌&&◌, ◌||◌, Bool, true, false, nat_lt, if◌then◌else◌, ℤ, pos, negsuc, List, [], ◌∷◌, ◌++◌, length, map}
use Rattle.std.specs.Ordering.{int_eq}
use Rattle.odc_text.specs.declared.place.Place.{Place}
use Rattle.odc_text.specs.Run.{out}
use Rattle.odc_types.specs.Widths.{is_signed}
use Rattle.odc_program.specs.States.Run.{pure, ◌>>=◌, ◌>>>◌}
use Rattle.odc_program.specs.States.Bytes.{Value, int_of}
use Rattle.odc_program.specs.Trees.Program.{Enumerator, Shape, truth, whole, rune, names, text}
use Rattle.odc_program.specs.States.State.{Do, spend, leave_behind, stray, known, Env, size_of, shape_of}
use Rattle.odc_program.specs.Kinds.Places.{read_truth}
use Rattle.odc_program.specs.Kinds.Operators.{read_text}

abbrev pub print : List ℕ → Do (Unit {0})
print bytes = spend (length bytes) >>> leave_behind (map out bytes)

-- ---- numbers in decimal
abbrev pub digits_by : Bool → ℕ → List ℕ → List ℕ
digits_by true n front = (48 + n) ∷ []
digits_by false n front = front ++ ((48 + n % 10) ∷ [])

abbrev pub digits : ℕ → ℕ → List ℕ
digits zero n = []
digits (suc k) n = digits_by (nat_lt n 10) n (digits k (n / 10))

abbrev pub int_text : ℤ → List ℕ
int_text (pos n) = digits 20 n
int_text (negsuc n) = 45 ∷ digits 20 (n + 1)

abbrev pub truth_text : Bool → List ℕ
truth_text true = 116 ∷ 114 ∷ 117 ∷ 101 ∷ []
truth_text false = 102 ∷ 97 ∷ 108 ∷ 115 ∷ 101 ∷ []

-- ---- runes in UTF-8; what is no scalar value is written as U+FFFD
abbrev pub low_six : ℕ → ℕ
low_six n = 128 + n % 64

abbrev pub scalar_text : ℕ → List ℕ
scalar_text n =
    if nat_lt n 128 then n ∷ []
    else (if nat_lt n 2048 then (192 + n / 64) ∷ low_six n ∷ []
    else (if nat_lt n 65536 then (224 + n / 4096) ∷ low_six (n / 64) ∷ low_six n ∷ []
    else (240 + n / 262144) ∷ low_six (n / 4096) ∷ low_six (n / 64) ∷ low_six n ∷ []))

abbrev pub IsScalar : ℕ → Bool
IsScalar n = nat_lt n 55296 || (nat_lt 57343 n && nat_lt n 1114112)

abbrev pub rune_text : ℤ → List ℕ
rune_text (pos n) = scalar_text (if IsScalar n then n else 65533)
rune_text (negsuc n) = scalar_text 65533

-- ---- the first enumerator with this value, else the number
abbrev pub print_name : List Enumerator → ℤ → Do (Unit {0})
print_name [] z = print (int_text z)
print_name (e ∷ es) z = spend 1 >>> (if int_eq e.value z then print e.name else print_name es z)

abbrev pub print_shaped : Place → ℕ → Shape → Value → Do (Unit {0})
print_shaped at n truth v = read_truth at v >>= (λ b. print (truth_text b))
print_shaped at n (whole width) v = known at (int_of (is_signed width) n v) >>= (λ z. print (int_text z))
print_shaped at n rune v = known at (int_of true n v) >>= (λ z. print (rune_text z))
print_shaped at n (names width es) v = known at (int_of (is_signed width) n v) >>= (λ z. print_name es z)
print_shaped at n text v = read_text at v >>= print
print_shaped at n _ v = stray at

abbrev pub print_value : Env → Place → ℕ → Value → Do (Unit {0})
print_value env at t v = print_shaped at (size_of env t) (shape_of env t) v

abbrev pub print_rest : Env → Place → List ℕ → List Value → Do (Unit {0})
print_rest env at (t ∷ ts) (v ∷ vs) = print (32 ∷ []) >>> print_value env at t v >>> print_rest env at ts vs
print_rest env at _ _ = pure tt

abbrev pub print_all : Env → Place → List ℕ → List Value → Do (Unit {0})
print_all env at (t ∷ ts) (v ∷ vs) = print_value env at t v >>> print_rest env at ts vs
print_all env at _ _ = pure tt

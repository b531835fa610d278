-- The names of types and constants that every package knows, and the names that are refused.
use Rattle.std.specs.Prelude.{ℕ, List, codes}
use Rattle.odc_builtins.specs.declared.universe.Predeclared.{Predeclared}
use Rattle.odc_builtins.specs.declared.universe.Predeclared.TheVariants as known
use Rattle.odc_builtins.specs.declared.universe.RefusedName.{RefusedName}
use Rattle.odc_builtins.specs.declared.universe.RefusedName.TheVariants as name
use Rattle.odc_builtins.specs.declared.universe.Refusal.{Refusal}
use Rattle.odc_builtins.specs.declared.universe.Refusal.TheVariants.{Float, TypeInfo, Address, Integer, Soa}

abbrev pub predeclared_name : Predeclared → List ℕ
predeclared_name known.Bool = codes "bool"
predeclared_name known.Int = codes "int"
predeclared_name known.Uint = codes "uint"
predeclared_name known.I8 = codes "i8"
predeclared_name known.I16 = codes "i16"
predeclared_name known.I32 = codes "i32"
predeclared_name known.I64 = codes "i64"
predeclared_name known.U8 = codes "u8"
predeclared_name known.U16 = codes "u16"
predeclared_name known.U32 = codes "u32"
predeclared_name known.U64 = codes "u64"
predeclared_name known.Byte = codes "byte"
predeclared_name known.Rune = codes "rune"
predeclared_name known.Text = codes "string"
predeclared_name known.RawPtr = codes "rawptr"
predeclared_name known.True = codes "true"
predeclared_name known.False = codes "false"
predeclared_name known.Nil = codes "nil"

abbrev pub refused_name : RefusedName → List ℕ
refused_name name.F16 = codes "f16"
refused_name name.F32 = codes "f32"
refused_name name.F64 = codes "f64"
refused_name name.Complex32 = codes "complex32"
refused_name name.Complex64 = codes "complex64"
refused_name name.Complex128 = codes "complex128"
refused_name name.Quaternion64 = codes "quaternion64"
refused_name name.Quaternion128 = codes "quaternion128"
refused_name name.Quaternion256 = codes "quaternion256"
refused_name name.Any = codes "any"
refused_name name.TypeInfoOf = codes "type_info_of"
refused_name name.TypeidOf = codes "typeid_of"
refused_name name.Cstring = codes "cstring"
refused_name name.Uintptr = codes "uintptr"
refused_name name.I128 = codes "i128"
refused_name name.U128 = codes "u128"
refused_name name.B8 = codes "b8"
refused_name name.B16 = codes "b16"
refused_name name.B32 = codes "b32"
refused_name name.B64 = codes "b64"
refused_name name.I16Le = codes "i16le"
refused_name name.I16Be = codes "i16be"
refused_name name.I32Le = codes "i32le"
refused_name name.I32Be = codes "i32be"
refused_name name.I64Le = codes "i64le"
refused_name name.I64Be = codes "i64be"
refused_name name.I128Le = codes "i128le"
refused_name name.I128Be = codes "i128be"
refused_name name.U16Le = codes "u16le"
refused_name name.U16Be = codes "u16be"
refused_name name.U32Le = codes "u32le"
refused_name name.U32Be = codes "u32be"
refused_name name.U64Le = codes "u64le"
refused_name name.U64Be = codes "u64be"
refused_name name.U128Le = codes "u128le"
refused_name name.U128Be = codes "u128be"
refused_name name.SoaZip = codes "soa_zip"
refused_name name.SoaUnzip = codes "soa_unzip"

-- floating point, types as values, addresses as numbers, other integers and truth types, columns and records
abbrev pub refusal_of : RefusedName → Refusal
refusal_of name.F16 = Float
refusal_of name.F32 = Float
refusal_of name.F64 = Float
refusal_of name.Complex32 = Float
refusal_of name.Complex64 = Float
refusal_of name.Complex128 = Float
refusal_of name.Quaternion64 = Float
refusal_of name.Quaternion128 = Float
refusal_of name.Quaternion256 = Float
refusal_of name.Any = TypeInfo
refusal_of name.TypeInfoOf = TypeInfo
refusal_of name.TypeidOf = TypeInfo
refusal_of name.Cstring = Address
refusal_of name.Uintptr = Address
refusal_of name.I128 = Integer
refusal_of name.U128 = Integer
refusal_of name.B8 = Integer
refusal_of name.B16 = Integer
refusal_of name.B32 = Integer
refusal_of name.B64 = Integer
refusal_of name.I16Le = Integer
refusal_of name.I16Be = Integer
refusal_of name.I32Le = Integer
refusal_of name.I32Be = Integer
refusal_of name.I64Le = Integer
refusal_of name.I64Be = Integer
refusal_of name.I128Le = Integer
refusal_of name.I128Be = Integer
refusal_of name.U16Le = Integer
refusal_of name.U16Be = Integer
refusal_of name.U32Le = Integer
refusal_of name.U32Be = Integer
refusal_of name.U64Le = Integer
refusal_of name.U64Be = Integer
refusal_of name.U128Le = Integer
refusal_of name.U128Be = Integer
refusal_of name.SoaZip = Soa
refusal_of name.SoaUnzip = Soa

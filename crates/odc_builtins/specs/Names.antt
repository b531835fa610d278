use Rattle.std.specs.Prelude.{ℕ, List, codes}
use Rattle.odc_builtins.specs.declared.builtin.Builtin.{Builtin}
use Rattle.odc_builtins.specs.declared.builtin.Builtin.TheVariants.{Len, Cap, RawData, SizeOf, AlignOf, OffsetOf, Min, Max, Abs, Copy, Assert, Panic, Clear, Pop, OrderedRemove, UnorderedRemove, HeapRegion, TempRegion, ByteSlice, New, Make, Append, Reserve, Resize, Delete, Free, FreeAll}
use Rattle.odc_builtins.specs.declared.builtin.Home.{Home}
use Rattle.odc_builtins.specs.declared.builtin.Home.TheVariants.{Everywhere, Runtime}

-- the bare name of each built-in procedure
abbrev pub name_of : Builtin → List ℕ
name_of Len = codes "len"
name_of Cap = codes "cap"
name_of RawData = codes "raw_data"
name_of SizeOf = codes "size_of"
name_of AlignOf = codes "align_of"
name_of OffsetOf = codes "offset_of"
name_of Min = codes "min"
name_of Max = codes "max"
name_of Abs = codes "abs"
name_of Copy = codes "copy"
name_of Assert = codes "assert"
name_of Panic = codes "panic"
name_of Clear = codes "clear"
name_of Pop = codes "pop"
name_of OrderedRemove = codes "ordered_remove"
name_of UnorderedRemove = codes "unordered_remove"
name_of HeapRegion = codes "heap_region"
name_of TempRegion = codes "temp_region"
name_of ByteSlice = codes "byte_slice"
name_of New = codes "new"
name_of Make = codes "make"
name_of Append = codes "append"
name_of Reserve = codes "reserve"
name_of Resize = codes "resize"
name_of Delete = codes "delete"
name_of Free = codes "free"
name_of FreeAll = codes "free_all"

-- the three that give the regions of memory belong to the package that stands on them
abbrev pub home_of : Builtin → Home
home_of HeapRegion = Runtime
home_of TempRegion = Runtime
home_of ByteSlice = Runtime
home_of _ = Everywhere

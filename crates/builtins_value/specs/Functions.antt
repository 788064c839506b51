-- The functions of the definitions, by their names here and in programs.
use Rattle.std.specs.Prelude.{if◌then◌else◌, codes, List, [], ◌∷◌, Option, Some, None}
use Rattle.spec_value.specs.Datum.{Text, same_text}
use Rattle.spec_value.specs.PureBuiltins.{PureFunction as PureFunctionOf, typeof_row, tostr_row, toliteral_row, toint_row, toobj_row, equal_row, length_row, is_member_row, listappend_row, listinsert_row, listdelete_row, listset_row, setadd_row, setremove_row, index_row, rindex_row, strcmp_row, strsub_row, abs_row, min_row, max_row}
use Rattle.builtins_value.specs.declared.function.PureFunction.{PureFunction}
use Rattle.builtins_value.specs.declared.function.PureFunction.TheVariants.{Typeof, Tostr, Toliteral, Toint, Toobj, Equal, Length, IsMember, Listappend, Listinsert, Listdelete, Listset, Setadd, Setremove, Index, Rindex, Strcmp, Strsub, Abs, Min, Max}

abbrev pub function_of : PureFunction → PureFunctionOf
function_of Typeof = typeof_row
function_of Tostr = tostr_row
function_of Toliteral = toliteral_row
function_of Toint = toint_row
function_of Toobj = toobj_row
function_of Equal = equal_row
function_of Length = length_row
function_of IsMember = is_member_row
function_of Listappend = listappend_row
function_of Listinsert = listinsert_row
function_of Listdelete = listdelete_row
function_of Listset = listset_row
function_of Setadd = setadd_row
function_of Setremove = setremove_row
function_of Index = index_row
function_of Rindex = rindex_row
function_of Strcmp = strcmp_row
function_of Strsub = strsub_row
function_of Abs = abs_row
function_of Min = min_row
function_of Max = max_row

-- what programs call them, in lower case
abbrev pub names : List (Text × PureFunctionOf)
names =
    (codes "typeof", typeof_row) ∷ (codes "tostr", tostr_row) ∷ (codes "toliteral", toliteral_row) ∷ (codes "toint", toint_row)
    ∷ (codes "tonum", toint_row) ∷ (codes "toobj", toobj_row) ∷ (codes "equal", equal_row) ∷ (codes "length", length_row)
    ∷ (codes "is_member", is_member_row) ∷ (codes "listappend", listappend_row) ∷ (codes "listinsert", listinsert_row)
    ∷ (codes "listdelete", listdelete_row) ∷ (codes "listset", listset_row) ∷ (codes "setadd", setadd_row)
    ∷ (codes "setremove", setremove_row) ∷ (codes "index", index_row) ∷ (codes "rindex", rindex_row) ∷ (codes "strcmp", strcmp_row)
    ∷ (codes "strsub", strsub_row) ∷ (codes "abs", abs_row) ∷ (codes "min", min_row) ∷ (codes "max", max_row) ∷ []

abbrev pub named_in : Text → List (Text × PureFunctionOf) → Option PureFunctionOf
named_in t [] = None
named_in t (n ∷ ns) = if same_text t n.0 then Some n.1 else named_in t ns

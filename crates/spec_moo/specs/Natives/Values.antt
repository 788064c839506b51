-- Built-in functions of values alone.
use Rattle.std.specs.Prelude.{List, [], ◌∷◌, Option, option_map, codes}
use Rattle.spec_value.specs.Datum.{Datum, Text}
use Rattle.spec_value.specs.PureBuiltins.{PureFunction, typeof_row, tostr_row, toliteral_row, toint_row, toobj_row, equal_row, length_row, is_member_row, listappend_row, listinsert_row, listdelete_row, listset_row, setadd_row, setremove_row, index_row, rindex_row, strcmp_row, strsub_row, abs_row, min_row, max_row, call_value}
use Rattle.spec_moo.specs.Properties.{row_of}
use Rattle.spec_moo.specs.Scene.{Scene}
use Rattle.spec_moo.specs.NativeEffect.{Caller, NativeEffect, answers}

abbrev pub value_rows : List (Text × PureFunction)
value_rows =
    (codes "typeof", typeof_row) ∷ (codes "tostr", tostr_row) ∷ (codes "toliteral", toliteral_row)
    ∷ (codes "toint", toint_row) ∷ (codes "tonum", toint_row) ∷ (codes "toobj", toobj_row)
    ∷ (codes "equal", equal_row) ∷ (codes "length", length_row) ∷ (codes "is_member", is_member_row)
    ∷ (codes "listappend", listappend_row) ∷ (codes "listinsert", listinsert_row) ∷ (codes "listdelete", listdelete_row)
    ∷ (codes "listset", listset_row) ∷ (codes "setadd", setadd_row) ∷ (codes "setremove", setremove_row)
    ∷ (codes "index", index_row) ∷ (codes "rindex", rindex_row) ∷ (codes "strcmp", strcmp_row) ∷ (codes "strsub", strsub_row)
    ∷ (codes "abs", abs_row) ∷ (codes "min", min_row) ∷ (codes "max", max_row) ∷ []

abbrev pub values : Scene → Caller → Text → List Datum → Option NativeEffect
values s c name args = option_map (λ f. answers s (call_value f args)) (row_of value_rows name)

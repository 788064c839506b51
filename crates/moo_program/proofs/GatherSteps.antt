-- One item more is gathered.
use Rattle.std.proofs.Common.{◌≡◌, ℕ, ◌+◌, ◌<◌, ◌≤◌, List, [], ◌∷◌, ◌++◌, drop, map, get_or, length, refl, ap, sym, ◌∙◌}
use Rattle.std.proofs.lemmas.List.{drop_all, append_assoc, append-nil}
use Rattle.spec_value.specs.Datum.{Text}
use Rattle.spec_program.specs.Tree.{Program}
use Rattle.moo_code.specs.Instruction.{with_handlers}
use Rattle.moo_code.specs.Layout.{slots_of}
use Rattle.moo_code.specs.Names.{with_names, slot_name, some_name, handler_names, starting_names}
use Rattle.moo_program.specs.Names.{known}
use Rattle.moo_tree.specs.ExpressionView.{items_of}
use Rattle.moo_tree.specs.declared.expression.Item.{Item as ScatterItem}
use Rattle.moo_tree.specs.declared.expression.Item.TheVariants.{Required, Optional, Rest, Default}
use Rattle.moo_program.specs.Drafting.{item_of, row_of, name_of}
use Rattle.moo_program.specs.declared.moo_bytecode.draft.Item.{Item}
use Rattle.moo_program.specs.declared.moo_bytecode.operation.HandlerRow.{HandlerRow}
use Rattle.moo_program.specs.Gathering.{draft_names, draft_handled, draft_bodies}
use Rattle.moo_program.proofs.Gathered.{no_names, with_append, names_next, handled_next, bodies_next}
use Rattle.moo_program.proofs.Lists.{item_next}

pub names_step : (names more all : List Text) (items : List Item) (i : ℕ) (x : Item) → i < length items → x ≡ get_or items i x → more ≡ draft_names names (item_of x ∷ [])
    → draft_names names (map item_of (drop i items)) ≡ all → draft_names more (map item_of (drop (i + 1) items)) ≡ all
names_step names more all items i x h is e before =
    ap (λ ns. draft_names ns (map item_of (drop (i + 1) items))) e ∙ sym (names_next names (item_of x) (map item_of (drop (i + 1) items)))
    ∙ ap (λ xs. draft_names names (map item_of xs)) (sym (item_next items i x h is)) ∙ before

pub known_none : known [] ≡ starting_names
unfolding known
known_none = append-nil starting_names

names_none : (names : List Text) → draft_names names [] ≡ names
unfolding draft_names
names_none names = refl

pub names_end : (names all : List Text) (items : List Item) (i : ℕ) → length items ≤ i → draft_names names (map item_of (drop i items)) ≡ all → names ≡ all
names_end names all items i h before = sym (ap (λ xs. draft_names names (map item_of xs)) (drop_all i items h) ∙ names_none names) ∙ before

pub handled_step : (names more all : List Text) (items : List Item) (i : ℕ) (x : Item) → i < length items → x ≡ get_or items i x → more ≡ draft_handled names (item_of x ∷ [])
    → draft_handled names (map item_of (drop i items)) ≡ all → draft_handled more (map item_of (drop (i + 1) items)) ≡ all
handled_step names more all items i x h is e before =
    ap (λ ns. draft_handled ns (map item_of (drop (i + 1) items))) e ∙ sym (handled_next names (item_of x) (map item_of (drop (i + 1) items)))
    ∙ ap (λ xs. draft_handled names (map item_of xs)) (sym (item_next items i x h is)) ∙ before

handled_none : (names : List Text) → draft_handled names [] ≡ names
unfolding draft_handled
handled_none names = refl

pub handled_end : (names all : List Text) (items : List Item) (i : ℕ) → length items ≤ i → draft_handled names (map item_of (drop i items)) ≡ all → names ≡ all
handled_end names all items i h before = sym (ap (λ xs. draft_handled names (map item_of xs)) (drop_all i items h) ∙ handled_none names) ∙ before

pub bodies_step : (bs more all : List Program) (items : List Item) (i : ℕ) (x : Item) → i < length items → x ≡ get_or items i x → more ≡ bs ++ draft_bodies (item_of x ∷ [])
    → bs ++ draft_bodies (map item_of (drop i items)) ≡ all → more ++ draft_bodies (map item_of (drop (i + 1) items)) ≡ all
bodies_step bs more all items i x h is e before =
    ap (λ bs. bs ++ draft_bodies (map item_of (drop (i + 1) items))) e ∙ append_assoc bs (draft_bodies (item_of x ∷ [])) (draft_bodies (map item_of (drop (i + 1) items)))
    ∙ ap (λ ps. bs ++ ps) (sym (bodies_next (item_of x) (map item_of (drop (i + 1) items))))
    ∙ ap (λ xs. bs ++ draft_bodies (map item_of xs)) (sym (item_next items i x h is)) ∙ before

bodies_none : (bs : List Program) → bs ++ draft_bodies [] ≡ bs
unfolding draft_bodies
bodies_none bs = append-nil bs

pub bodies_end : (bs all : List Program) (items : List Item) (i : ℕ) → length items ≤ i → bs ++ draft_bodies (map item_of (drop i items)) ≡ all → bs ≡ all
bodies_end bs all items i h before = sym (ap (λ xs. bs ++ draft_bodies (map item_of xs)) (drop_all i items h) ∙ bodies_none bs) ∙ before

-- ---- items of a scattering assignment

abbrev pub items_names : List ScatterItem → List Text
items_names xs = map slot_name (slots_of (items_of xs))

items_apart : (x : ScatterItem) (xs : List ScatterItem) → items_names (x ∷ xs) ≡ items_names (x ∷ []) ++ items_names xs
items_apart (Required y) xs = refl
items_apart (Optional y) xs = refl
items_apart (Rest y) xs = refl
items_apart (Default y e) xs = refl

pub items_step : (names more all : List Text) (items : List ScatterItem) (i : ℕ) (x : ScatterItem) → i < length items → x ≡ get_or items i x
    → more ≡ with_names names (items_names (x ∷ [])) → with_names names (items_names (drop i items)) ≡ all → with_names more (items_names (drop (i + 1) items)) ≡ all
items_step names more all items i x h is e before =
    ap (λ ns. with_names ns (items_names (drop (i + 1) items))) e ∙ sym (with_append (items_names (x ∷ [])) (items_names (drop (i + 1) items)) names)
    ∙ ap (with_names names) (sym (items_apart x (drop (i + 1) items)))
    ∙ ap (λ xs. with_names names (items_names xs)) (sym (item_next items i x h is)) ∙ before

pub items_end : (names all : List Text) (items : List ScatterItem) (i : ℕ) → length items ≤ i → with_names names (items_names (drop i items)) ≡ all → names ≡ all
items_end names all items i h before = sym (ap (λ xs. with_names names (items_names xs)) (drop_all i items h) ∙ no_names names) ∙ before

-- ---- rows of a `try`

abbrev pub rows_names : List HandlerRow → List Text
rows_names rs = handler_names (with_handlers (map row_of rs))

pub rows_step : (names more all : List Text) (rows : List HandlerRow) (i : ℕ) (r : HandlerRow) → i < length rows → r ≡ get_or rows i r
    → more ≡ with_names names (some_name (name_of r.variable)) → with_names names (rows_names (drop i rows)) ≡ all → with_names more (rows_names (drop (i + 1) rows)) ≡ all
rows_step names more all rows i r h is e before =
    ap (λ ns. with_names ns (rows_names (drop (i + 1) rows))) e ∙ sym (with_append (some_name (name_of r.variable)) (rows_names (drop (i + 1) rows)) names)
    ∙ ap (λ rs. with_names names (rows_names rs)) (sym (item_next rows i r h is)) ∙ before

pub rows_end : (names all : List Text) (rows : List HandlerRow) (i : ℕ) → length rows ≤ i → with_names names (rows_names (drop i rows)) ≡ all → names ≡ all
rows_end names all rows i h before = sym (ap (λ rs. with_names names (rows_names rs)) (drop_all i rows h) ∙ no_names names) ∙ before

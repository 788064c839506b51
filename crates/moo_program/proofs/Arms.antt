-- The handlers of a `try` are those of its rows.
use Rattle.std.proofs.Common.{◌≡◌, ℕ, ◌+◌, ◌<◌, List, [], ◌∷◌, ◌++◌, take, map, get_or, length, Option, refl, ap, sym, ◌∙◌}
use Rattle.std.proofs.lemmas.List.{map-append}
use Rattle.spec_value.specs.Datum.{Text}
use Rattle.moo_code.specs.Instruction.{placed, handler_parts}
use Rattle.moo_program.specs.Drafting.{row_of}
use Rattle.moo_program.specs.declared.moo_bytecode.operation.HandlerRow.{HandlerRow}
use Rattle.moo_program.specs.Meaning.{arm_meant, arm_place}
use Rattle.moo_program.specs.declared.instruction.CatchArm.{CatchArm}
use Rattle.moo_program.proofs.Lists.{item_last, map_last}

parts_last : (hs : List (Option Text × ℕ)) (h : Option Text × ℕ) → handler_parts (hs ++ h ∷ []) ≡ handler_parts hs ++ h.1 ∷ []
parts_last [] h = refl
parts_last (k ∷ hs) h = ap (λ ns. k.1 ∷ ns) (parts_last hs h)

placed_last : (to : ℕ → ℕ) (ns : List ℕ) (n : ℕ) → placed to (ns ++ n ∷ []) ≡ placed to ns ++ (n, to n) ∷ []
placed_last to [] n = refl
placed_last to (k ∷ ns) n = ap (λ ps. (k, to k) ∷ ps) (placed_last to ns n)

pub rows_next : (names : List Text) (arms more : List CatchArm) (rows : List HandlerRow) (i : ℕ) (row : HandlerRow) (arm : CatchArm) → i < length rows → row ≡ get_or rows i row
    → more ≡ arms ++ arm ∷ [] → arm_meant names arm ≡ row_of row → map (arm_meant names) arms ≡ map row_of (take i rows)
    → map (arm_meant names) more ≡ map row_of (take (i + 1) rows)
rows_next names arms more rows i row arm h is put same before =
    map_last (arm_meant names) arms more arm put ∙ ap (λ r. map (arm_meant names) arms ++ r ∷ []) same ∙ ap (λ rs. rs ++ row_of row ∷ []) before
    ∙ sym (map_last row_of (take i rows) (take (i + 1) rows) row (item_last rows i row h is))

pub places_next : (to : ℕ → ℕ) (arms more : List CatchArm) (rows : List HandlerRow) (i : ℕ) (row : HandlerRow) (arm : CatchArm) → i < length rows → row ≡ get_or rows i row
    → more ≡ arms ++ arm ∷ [] → arm_place arm ≡ (row.part, to row.part) → map arm_place arms ≡ placed to (handler_parts (map row_of (take i rows)))
    → map arm_place more ≡ placed to (handler_parts (map row_of (take (i + 1) rows)))
places_next to arms more rows i row arm h is put same before =
    let last : map row_of (take (i + 1) rows) ≡ map row_of (take i rows) ++ row_of row ∷ [] = map_last row_of (take i rows) (take (i + 1) rows) row (item_last rows i row h is) in
    map_last arm_place arms more arm put ∙ ap (λ p. map arm_place arms ++ p ∷ []) same ∙ ap (λ ps. ps ++ (row.part, to row.part) ∷ []) before
    ∙ sym (placed_last to (handler_parts (map row_of (take i rows))) row.part)
    ∙ ap (placed to) (sym (parts_last (map row_of (take i rows)) (row_of row)))
    ∙ ap (λ rs. placed to (handler_parts rs)) (sym last)

abbrev pub pair : {A B : Type 0} → A → B → A × B
pair a b = (a, b)

pub pair_same : {A B : Type 0} (a c : A) (b d : B) → a ≡ c → b ≡ d → pair a b ≡ pair c d
pair_same a c b d p q = ap (λ a. pair a b) p ∙ ap (λ b. pair c b) q

-- What is read at the front of some bytes stands there.
use Rattle.std.proofs.Common.{◌≡◌, ℕ, zero, suc, ◌-◌, ◌<◌, ◌≤◌, length, ◌==◌, ◌||◌, Bool, true, false, if◌then◌else◌, List, [], ◌∷◌, ◌++◌, take, drop, Option, Some, None, IsTrue, refl, ap, sym, subst, ◌∙◌, arith, append_assoc, eqb-true}
use Rattle.std.specs.Prelude.{ℤ, IfSome}
use Rattle.std.proofs.lemmas.Bool.Decides.{nat_tests}
use Rattle.std.proofs.lemmas.List.{append-nil, take-append-drop}
use Rattle.std.specs.Fmt.{signed_decimal}
use Rattle.spec_value.specs.Datum.{Text, is_text, in_number_range, Datum, integer, object, text, error, list, ErrorCode, Data, no_data, item, of_list, is_value}
use Rattle.spec_value.specs.Literal.{error_name, escape, escaped, literal, data_text, more_text}
use Rattle.spec_value.proofs.Entries.{first_holds, second_holds, both_hold}
use Rattle.spec_faults.specs.Plain.{integer_of}
use Rattle.spec_faults.specs.Literals.{nests, all_nest, value_of}
use Rattle.spec_faults.proofs.Spelling.{integers_spelled, values_spelled}
use Rattle.spec_faults.proofs.LiteralsBack.{values_told}
use Rattle.line_fields.proofs.LettersSet.{empty_is}
use Rattle.moo_value.specs.Read.{Found, FindsText, FindsValue, after_name, mark, space}
use Rattle.moo_value.specs.Depth.{depth, data_depth}
use Rattle.std.specs.Borrow.{Bor}
use Rattle.line_fields.specs.Said.{TellsText, TellsValue, string_in}
use Rattle.moo_value.proofs.EscapedTexts.{first_same, second_same}
use Rattle.line_fields.specs.Quoted.{is_ordinary, ordinary_run, quote_mark, behind_backslash}

-- ---- numbers and names

pub number_there : (bytes front rest : Text) (z : ℤ) → front ++ rest ≡ bytes → Some z ≡ integer_of front → (bytes ≡ signed_decimal z ++ rest) × IsTrue (in_number_range z)
number_there bytes front rest z e i = let s = integers_spelled front z (sym i) in (sym e ∙ ap (λ t. t ++ rest) (sym s.spelled), s.range)

pub name_there : (name bytes rest : Text) → after_name name bytes ≡ Some rest → bytes ≡ name ++ rest
name_there [] bytes rest e = let same : bytes ≡ rest = cc in same
name_there (c ∷ name) [] rest e = cc
name_there (c ∷ name) (b ∷ bytes) rest e = go (c == b) refl e (λ k. name_there name bytes rest k)
  where
    same : (c == b) ≡ true → b ≡ c
    same h = grind (arith, nat_tests)

    go : (d : Bool) → (c == b) ≡ d → (if d then after_name name bytes else None) ≡ Some rest → (after_name name bytes ≡ Some rest → bytes ≡ name ++ rest) → b ∷ bytes ≡ (c ∷ name) ++ rest
    go true h k later = let one = same h in let more = later k in λ i. one i ∷ more i
    go false h k later = cc

-- ---- texts

ordinary_itself : (c : ℕ) → is_ordinary c ≡ true → escape c ≡ c ∷ []
ordinary_itself c h = rw (no_mark h) refl
  where
    no_mark : is_ordinary c ≡ true → (c == 34 || c == 92) ≡ false
    no_mark k = grind (arith, nat_tests)

run_escaped : (bytes : Text) → escaped (take (ordinary_run bytes) bytes) ≡ take (ordinary_run bytes) bytes
run_escaped [] = refl
run_escaped (c ∷ t) = go (is_ordinary c) refl (run_escaped t)
  where
    go : (b : Bool) → is_ordinary c ≡ b → escaped (take (ordinary_run t) t) ≡ take (ordinary_run t) t
        → escaped (take (if b then suc (ordinary_run t) else 0) (c ∷ t)) ≡ take (if b then suc (ordinary_run t) else 0) (c ∷ t)
    go true h e = (λ i. ordinary_itself c h i ++ e i)
    go false h e = refl

pub escaped_then : (t u : Text) → escaped (t ++ u) ≡ escaped t ++ escaped u
escaped_then [] u = refl
escaped_then (c ∷ t) u = ap (λ x. escape c ++ x) (escaped_then t u) ∙ sym (append_assoc (escape c) (escaped t) (escaped u))

is_it : (c d : ℕ) → (c == d) ≡ true → c ≡ d
is_it c d h = eqb-true c d h

rest_same : (o p : Option ℕ) (x y : Text) → ◌≡◌ {A = Option (Option ℕ × List ℕ)} (Some (o, x)) (Some (p, y)) → (o ≡ p) × (x ≡ y)
rest_same o p x y e = (first_same o p x y e, second_same o p x y e)

-- a quote, or what an escaped character is spelled with
abbrev pub marked : Option ℕ → Text → Text
marked None rest = 34 ∷ rest
marked (Some c) rest = escape c ++ rest

behind_mark : (t : Text) (o : Option ℕ) (rest : Text) → behind_backslash t ≡ Some (o, rest) → 92 ∷ t ≡ marked o rest
behind_mark [] o rest e = cc
behind_mark (c ∷ t) o rest e = go (c == 34 || c == 92) refl e
  where
    go : (b : Bool) → (c == 34 || c == 92) ≡ b → ◌≡◌ {A = Option (Option ℕ × List ℕ)} (if b then Some (Some c, t) else None) (Some (o, rest)) → 92 ∷ c ∷ t ≡ marked o rest
    go true h k =
        let same = rest_same (Some c) o t rest k in
        let spelled : escape c ++ t ≡ 92 ∷ c ∷ t = rw h refl in
        sym spelled ∙ (λ i. marked (same.0 i) (same.1 i))
    go false h k = cc

pub mark_there : (back : Text) (o : Option ℕ) (rest : Text) → quote_mark back ≡ Some (o, rest) → back ≡ marked o rest
mark_there [] o rest e = cc
mark_there (c ∷ t) o rest e = go (c == 34) (c == 92) refl refl e
  where
    go : (q b : Bool) → (c == 34) ≡ q → (c == 92) ≡ b → ◌≡◌ {A = Option (Option ℕ × List ℕ)} (if q then Some (None, t) else (if b then behind_backslash t else None)) (Some (o, rest)) → c ∷ t ≡ marked o rest
    go true b h k d =
        let same = rest_same None o t rest d in ap (λ x. x ∷ t) (is_it c 34 h) ∙ (λ i. marked (same.0 i) (same.1 i))
    go false true h k d = ap (λ x. x ∷ t) (is_it c 92 k) ∙ behind_mark t o rest d
    go false false h k d = cc

-- up to a quote
pub plain_there : (bytes front back rest : Text) (k : ℕ) → k ≡ ordinary_run bytes → front ≡ take k bytes → back ≡ drop k bytes → quote_mark back ≡ Some (None, rest) → bytes ≡ escaped front ++ 34 ∷ rest
plain_there bytes front back rest k run f b e =
    let part : escaped front ≡ front = ap escaped (f ∙ ap (λ n. take n bytes) run) ∙ run_escaped bytes ∙ sym (f ∙ ap (λ n. take n bytes) run) in
    sym (take-append-drop k bytes) ∙ (λ i. sym f i ++ (sym b ∙ mark_there back None rest e) i) ∙ ap (λ t. t ++ 34 ∷ rest) (sym part)

-- characters that were read, some that a text has as they are, and a mark
pub mark_further : (bytes found rest front back behind : Text) (k : ℕ) (o : Option ℕ) → bytes ≡ escaped found ++ rest → k ≡ ordinary_run rest → front ≡ take k rest → back ≡ drop k rest
    → quote_mark back ≡ Some (o, behind) → bytes ≡ escaped (found ++ front) ++ marked o behind
mark_further bytes found rest front back behind k o so run f b e =
    let part : escaped front ≡ front = ap escaped (f ∙ ap (λ n. take n rest) run) ∙ run_escaped rest ∙ sym (f ∙ ap (λ n. take n rest) run) in
    let left : rest ≡ escaped front ++ marked o behind = sym (take-append-drop k rest) ∙ (λ i. sym f i ++ (sym b ∙ mark_there back o behind e) i) ∙ ap (λ t. t ++ marked o behind) (sym part) in
    so ∙ ap (λ t. escaped found ++ t) left ∙ sym (append_assoc (escaped found) (escaped front) (marked o behind)) ∙ ap (λ t. t ++ marked o behind) (sym (escaped_then found front))

pub character_further : (bytes found behind : Text) (c : ℕ) → bytes ≡ escaped found ++ marked (Some c) behind → bytes ≡ escaped (found ++ c ∷ []) ++ behind
character_further bytes found behind c e =
    e ∙ sym (append_assoc (escaped found) (escape c) behind) ∙ ap (λ t. (escaped found ++ t) ++ behind) (sym (append-nil (escape c))) ∙ ap (λ t. t ++ behind) (sym (escaped_then found (c ∷ [])))

-- ---- lists

nests_list : (room : ℕ) (xs : Data) → 0 < room → IsTrue (all_nest (room - 1) xs) → IsTrue (nests room (list xs))
nests_list zero xs h k = absurd (omega (arith, h))
nests_list (suc n) xs h k = let same : suc n - 1 ≡ n = omega arith in subst (λ m. IsTrue (all_nest m xs)) same k

pub more_then : (xs : List Datum) (v : Datum) → more_text (of_list (xs ++ v ∷ [])) ≡ more_text (of_list xs) ++ 44 ∷ 32 ∷ literal v
more_then [] v = ap (λ t. 44 ∷ 32 ∷ t) (append-nil (literal v))
more_then (x ∷ xs) v = ap (λ t. 44 ∷ 32 ∷ (literal x ++ t)) (more_then xs v) ∙ ap (λ t. 44 ∷ 32 ∷ t) (sym (append_assoc (literal x) (more_text (of_list xs)) (44 ∷ 32 ∷ literal v)))

nest_then : (n : ℕ) (xs : List Datum) (v : Datum) → IsTrue (all_nest n (of_list xs)) → IsTrue (nests n v) → IsTrue (all_nest n (of_list (xs ++ v ∷ [])))
nest_then n [] v h k = both_hold (nests n v) true k refl
nest_then n (x ∷ xs) v h k = both_hold (nests n x) (all_nest n (of_list (xs ++ v ∷ []))) (first_holds (nests n x) (all_nest n (of_list xs)) h) (nest_then n xs v (second_holds (nests n x) (all_nest n (of_list xs)) h) k)

abbrev pub behind : List Datum → Text → Text
behind [] rest = rest
behind (x ∷ xs) rest = data_text (of_list (x ∷ xs)) ++ 44 ∷ 32 ∷ rest

-- items that were read, with a comma and a space behind them if there are any
pub record Led (room : ℕ) (bytes : Text) (items : List Datum) (rest : Text) : Type 0 where
  pub told : bytes ≡ behind items rest
  pub nest : IsTrue (all_nest room (of_list items))

one_more : (items : List Datum) (v : Datum) (after : Text) → behind items (literal v ++ after) ≡ data_text (of_list (items ++ v ∷ [])) ++ after
one_more [] v after = ap (λ t. t ++ after) (sym (append-nil (literal v)))
one_more (x ∷ xs) v after =
    sym (append_assoc (literal x ++ more_text (of_list xs)) (44 ∷ 32 ∷ literal v) after)
    ∙ ap (λ t. t ++ after) (append_assoc (literal x) (more_text (of_list xs)) (44 ∷ 32 ∷ literal v) ∙ ap (λ t. literal x ++ t) (sym (more_then xs v)))

abbrev Item : ℕ → Text → Datum → Text → Type 0
Item room rest v after = (rest ≡ literal v ++ after) × IsTrue (nests room v)

pub item_told : (room : ℕ) (bytes rest after : Text) (items : List Datum) (v : Datum) → Led room bytes items rest → Item room rest v after
    → (bytes ≡ data_text (of_list (items ++ v ∷ [])) ++ after) × IsTrue (all_nest room (of_list (items ++ v ∷ [])))
item_told room bytes rest after items v led told = (led.told ∙ ap (behind items) told.0 ∙ one_more items v after, nest_then room items v led.nest told.1)

behind_some : (items : List Datum) (v : Datum) (rest : Text) → behind (items ++ v ∷ []) rest ≡ data_text (of_list (items ++ v ∷ [])) ++ 44 ∷ 32 ∷ rest
behind_some [] v rest = refl
behind_some (x ∷ xs) v rest = refl

space_there : (t more : Text) (b : Bool) → space t ≡ Some (b, more) → (b ≡ false) × (t ≡ 32 ∷ more)
space_there [] more b e = cc
space_there (c ∷ t) more b e = go (c == 32) refl e
  where
    go : (d : Bool) → (c == 32) ≡ d → ◌≡◌ {A = Option (Bool × List ℕ)} (if d then Some (false, t) else None) (Some (b, more)) → (b ≡ false) × (c ∷ t ≡ 32 ∷ more)
    go true h k = (sym (first_same false b t more k), (λ i. is_it c 32 h i ∷ second_same false b t more k i))
    go false h k = cc

after_mark : Bool → Text → Text
after_mark true more = 125 ∷ more
after_mark false more = 44 ∷ 32 ∷ more

mark_is : (after more : Text) (b : Bool) → mark after ≡ Some (b, more) → after ≡ after_mark b more
unfolding after_mark
mark_is [] more b e = cc
mark_is (c ∷ t) more b e = go (c == 125) (c == 44) refl refl e
  where
    go : (q d : Bool) → (c == 125) ≡ q → (c == 44) ≡ d → ◌≡◌ {A = Option (Bool × List ℕ)} (if q then Some (true, t) else (if d then space t else None)) (Some (b, more)) → c ∷ t ≡ after_mark b more
    go true d h k m = ap (λ x. x ∷ t) (is_it c 125 h) ∙ (λ i. after_mark (first_same true b t more m i) (second_same true b t more m i))
    go false true h k m =
        let s = space_there t more b m in
        ap (λ x. x ∷ t) (is_it c 44 k) ∙ ap (λ u. 44 ∷ u) s.1 ∙ ap (λ x. after_mark x more) (sym s.0)
    go false false h k m = cc

pub closing_mark : (after more : Text) → mark after ≡ Some (true, more) → after ≡ 125 ∷ more
unfolding after_mark
closing_mark after more e = mark_is after more true e

pub comma_mark : (after more : Text) → mark after ≡ Some (false, more) → after ≡ 44 ∷ 32 ∷ more
unfolding after_mark
comma_mark after more e = mark_is after more false e

pub led_begun : (room : ℕ) (bytes : Text) (items : List Datum) → items ≡ [] → Led room bytes items bytes
led_begun room bytes items e = record { told = ap (λ xs. behind xs bytes) (sym e); nest = ap (λ xs. all_nest room (of_list xs)) e }

pub led_on : (room : ℕ) (bytes rest after more : Text) (items all : List Datum) (v : Datum) → Led room bytes items rest → Item room rest v after → after ≡ 44 ∷ 32 ∷ more → all ≡ items ++ v ∷ [] → Led room bytes all more
led_on room bytes rest after more items all v led told comma pushed =
    let t = item_told room bytes rest after items v led told in
    subst (λ xs. Led room bytes xs more) (sym pushed) (record { told = t.0 ∙ ap (λ u. data_text (of_list (items ++ v ∷ [])) ++ u) comma ∙ sym (behind_some items v more); nest = t.1 })

pub led_ends : (room : ℕ) (bytes rest after more : Text) (items all : List Datum) (v : Datum) → Led room bytes items rest → Item room rest v after → after ≡ 125 ∷ more → all ≡ items ++ v ∷ []
    → (bytes ≡ data_text (of_list all) ++ 125 ∷ more) × IsTrue (all_nest room (of_list all))
led_ends room bytes rest after more items all v led told brace pushed =
    let t = item_told room bytes rest after items v led told in
    subst (λ xs. (bytes ≡ data_text (of_list xs) ++ 125 ∷ more) × IsTrue (all_nest room (of_list xs))) (sym pushed) (t.0 ∙ ap (λ u. data_text (of_list (items ++ v ∷ [])) ++ u) brace, t.1)

-- ---- values

pub list_told : (room c : ℕ) (bytes rest after : Text) (items : List Datum) → bytes ≡ c ∷ rest → c ≡ 123 → 0 < room
    → (rest ≡ data_text (of_list items) ++ 125 ∷ after) × IsTrue (all_nest (room - 1) (of_list items)) → Item room bytes (list (of_list items)) after
list_told room c bytes rest after items e k some told =
    (e ∙ (λ i. k i ∷ told.0 i) ∙ ap (λ t. 123 ∷ t) (sym (append_assoc (data_text (of_list items)) (125 ∷ []) after)), nests_list room (of_list items) some told.1)

pub none_told : (room c : ℕ) (bytes rest : Text) (items : List Datum) → bytes ≡ c ∷ rest → c ≡ 125 → items ≡ [] → (bytes ≡ data_text (of_list items) ++ 125 ∷ rest) × IsTrue (all_nest room (of_list items))
none_told room c bytes rest items e k none =
    subst (λ xs. (bytes ≡ data_text (of_list xs) ++ 125 ∷ rest) × IsTrue (all_nest room (of_list xs))) (sym none) (e ∙ ap (λ d. d ∷ rest) k, refl)

pub text_told : (room c : ℕ) (bytes rest after t : Text) → bytes ≡ c ∷ rest → c ≡ 34 → rest ≡ escaped t ++ 34 ∷ after → Item room bytes (text t) after
text_told room c bytes rest after t e k told = (e ∙ (λ i. k i ∷ told i) ∙ ap (λ u. 34 ∷ u) (sym (append_assoc (escaped t) (34 ∷ []) after)), deep room)
  where
    deep : (n : ℕ) → IsTrue (nests n (text t))
    deep zero = refl
    deep (suc n) = refl

pub object_told : (room c : ℕ) (bytes rest after : Text) (z : ℤ) → bytes ≡ c ∷ rest → c ≡ 35 → rest ≡ signed_decimal z ++ after → Item room bytes (object z) after
object_told room c bytes rest after z e k told = (e ∙ (λ i. k i ∷ told i), deep room)
  where
    deep : (n : ℕ) → IsTrue (nests n (object z))
    deep zero = refl
    deep (suc n) = refl

pub error_told : (room : ℕ) (bytes after : Text) (x : ErrorCode) → bytes ≡ error_name x ++ after → Item room bytes (error x) after
error_told room bytes after x told = (told, deep room)
  where
    deep : (n : ℕ) → IsTrue (nests n (error x))
    deep zero = refl
    deep (suc n) = refl

pub integer_told : (room : ℕ) (bytes after : Text) (z : ℤ) → bytes ≡ signed_decimal z ++ after → Item room bytes (integer z) after
integer_told room bytes after z told = (told, deep room)
  where
    deep : (n : ℕ) → IsTrue (nests n (integer z))
    deep zero = refl
    deep (suc n) = refl

-- ---- texts that were closed

pub closed_told : (bytes characters rest : Text) (o : Found Text) → IfSome o (λ p. (p.0 ≡ characters) × (p.1.now ≡ rest)) → bytes ≡ escaped characters ++ 34 ∷ rest → TellsText bytes o
closed_told bytes characters rest None h e = h
closed_told bytes characters rest (Some p) h e = e ∙ (λ i. escaped (sym h.0 i) ++ 34 ∷ sym h.1 i)

-- ---- whole literals

mutual
  depth_of : (v : Datum) (n : ℕ) → IsTrue (nests n v) → depth v ≤ n
  depth_of (integer z) n h = omega arith
  depth_of (object z) n h = omega arith
  depth_of (text t) n h = omega arith
  depth_of (error x) n h = omega arith
  depth_of (list xs) zero h = cc
  depth_of (list xs) (suc n) h = let d = data_depth_of xs n h in omega (arith, d)

  data_depth_of : (xs : Data) (n : ℕ) → IsTrue (all_nest n xs) → data_depth xs ≤ n
  data_depth_of no_data n h = omega arith
  data_depth_of (item x xs) n h =
      let a = depth_of x n (first_holds (nests n x) (all_nest n xs) h) in
      let b = data_depth_of xs n (second_holds (nests n x) (all_nest n xs) h) in
      omega (arith, a, b)

pub no_value : (t : Text) → ((v : Datum) → IsTrue (is_value v) → depth v ≤ 100000 → t ≡ literal v → ⊥) → value_of t ≡ None
no_value t h = go (value_of t) refl
  where
    go : (o : Option Datum) → value_of t ≡ o → value_of t ≡ None
    go None e = e
    go (Some v) e = let l = values_spelled t v e in absurd (h v l.range (depth_of v 100000 l.depth) (sym l.spelled))

-- nothing found, and no value
pub no_value_found : (t : Text) → FindsValue 100000 t None → value_of t ≡ None
no_value_found t f = no_value t (λ v h d e. let clash = f v [] h d refl (e ∙ sym (append-nil (literal v))) in cc)

pub more_found : (t : Text) (v : Datum) (rest : Bor (List ℕ)) (b : Bool) → FindsValue 100000 t (Some (v, rest)) → b ≡ (length rest.now == 0) → b ≡ false → value_of t ≡ None
more_found t v rest b f e k =
    no_value t (λ u h d is. let found : ◌≡◌ {A = Option (Datum × List ℕ)} (Some (v, rest.now)) (Some (u, [])) = f u [] h d refl (is ∙ sym (append-nil (literal u))) in not_empty (second_same v u rest.now [] found))
  where
    not_empty : rest.now ≡ [] → ⊥
    not_empty n = let z : (length rest.now == 0) ≡ true = ap (λ (x : List ℕ). length x == 0) n in cc

pub whole_found : (t : Text) (v : Datum) (rest : Bor (List ℕ)) (b : Bool) → TellsValue 100000 t (Some (v, rest)) → b ≡ (length rest.now == 0) → b ≡ true → IsTrue (is_value v) → Some v ≡ value_of t
whole_found t v rest b told e k range =
    let none : rest.now ≡ [] = empty_is rest.now b e k in
    let whole : t ≡ literal v = told.0 ∙ ap (λ u. literal v ++ u) none ∙ append-nil (literal v) in
    sym (ap value_of whole ∙ values_told v range told.1)

-- ---- texts alone

string_some : (t : Text) (s : Text) → string_in (value_of t) ≡ Some s → t ≡ literal (text s) × IsTrue (is_text s)
string_some t s e = go (value_of t) refl e
  where
    go : (o : Option Datum) → value_of t ≡ o → string_in o ≡ Some s → t ≡ literal (text s) × IsTrue (is_text s)
    go None k d = cc
    go (Some (text u)) k d = let l = values_spelled t (text u) k in let same : u ≡ s = cc in (sym l.spelled ∙ ap (λ x. literal (text x)) same, subst (λ x. IsTrue (is_text x)) same l.range)
    go (Some (integer z)) k d = cc
    go (Some (object z)) k d = cc
    go (Some (error x)) k d = cc
    go (Some (list xs)) k d = cc

pub no_string : (t : Text) → ((s : Text) → IsTrue (is_text s) → t ≡ literal (text s) → ⊥) → None ≡ string_in (value_of t)
no_string t h = go (string_in (value_of t)) refl
  where
    go : (o : Option Text) → string_in (value_of t) ≡ o → None ≡ string_in (value_of t)
    go None e = sym e
    go (Some s) e = let l = string_some t s e in absurd (h s l.1 l.0)

pub a_string : (t s : Text) → IsTrue (is_text s) → t ≡ literal (text s) → Some s ≡ string_in (value_of t)
a_string t s h e = sym (ap (λ u. string_in (value_of u)) e ∙ ap string_in (values_told (text s) h refl))

behind_same : (a b : ℕ) (t u : Text) → a ∷ t ≡ b ∷ u → t ≡ u
behind_same a b t u e = cc

-- behind a quote no text was found, or more than one
pub no_text_found : (t behind : Text) → t ≡ 34 ∷ behind → FindsText behind None → None ≡ string_in (value_of t)
no_text_found t behind e f = no_string t (λ s h is. let clash = f s [] h (behind_same 34 34 behind (escaped s ++ 34 ∷ []) (sym e ∙ is)) in cc)

pub more_behind : (t behind s : Text) (rest : Bor (List ℕ)) (b : Bool) → t ≡ 34 ∷ behind → FindsText behind (Some (s, rest)) → b ≡ (length rest.now == 0) → b ≡ false → None ≡ string_in (value_of t)
more_behind t behind s rest b e f d k =
    no_string t (λ u h is. let found : ◌≡◌ {A = Option (List ℕ × List ℕ)} (Some (s, rest.now)) (Some (u, [])) = f u [] h (behind_same 34 34 behind (escaped u ++ 34 ∷ []) (sym e ∙ is)) in not_empty (second_same s u rest.now [] found))
  where
    not_empty : rest.now ≡ [] → ⊥
    not_empty n = let z : (length rest.now == 0) ≡ true = ap (λ (x : List ℕ). length x == 0) n in cc

pub whole_text : (t behind s : Text) (rest : Bor (List ℕ)) (b : Bool) → t ≡ 34 ∷ behind → TellsText behind (Some (s, rest)) → b ≡ (length rest.now == 0) → b ≡ true → IsTrue (is_text s) → Some s ≡ string_in (value_of t)
whole_text t behind s rest b e told d k h = a_string t s h (e ∙ ap (λ u. 34 ∷ u) (told ∙ ap (λ u. escaped s ++ 34 ∷ u) (empty_is rest.now b d k)))

pub no_quote : (t : Text) → ((u : Text) → t ≡ 34 ∷ u → ⊥) → None ≡ string_in (value_of t)
no_quote t h = no_string t (λ s k e. h (escaped s ++ 34 ∷ []) e)

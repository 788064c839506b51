-- All variables of a verb, for another program.
use Rattle.std.proofs.Common.{◌≡◌, ◌∙◌, ap, sym, refl, subst, ℕ, suc, ◌+◌, ◌<◌, ◌≤◌, ◌⊎◌, inl, inr, ◌||◌, Bool, true, false, cond, List, [], ◌∷◌, ◌++◌, length, map, take, drop, get_or, append_assoc, add-one, Bor, Option, Some, None, IsTrue, is_some}
use Rattle.std.specs.Prelude.{if◌then◌else◌}
use Rattle.std.proofs.Math.Seq.{drop-cons}
use Rattle.std.proofs.lemmas.List.{append-nil, map-append, take_all, take_more}
use Rattle.std.proofs.lemmas.List.Folds.{list_any-append}
use Rattle.spec_value.specs.Datum.{Datum, Text, same_text}
use Rattle.spec_value.specs.Table.{Named, named, is_named}
use Rattle.spec_value.proofs.Same.{same_texts}
use Rattle.spec_program.specs.Tree.{Program}
use Rattle.spec_world.specs.World.{Call, Start}
use Rattle.spec_world.specs.WellFormed.{has_name}
use Rattle.spec_world.proofs.SlotTables.{key_there, sought}
use Rattle.moo_code.specs.Names.{starting_names, names_of}
use Rattle.moo_code.specs.Slots.{others, variables_with}
use Rattle.moo_code.proofs.Slots.{others_named, others_sorted, others_stay, table_is_split, variables_sorted}
use Rattle.moo_program.specs.Names.{known}
use Rattle.moo_task.specs.Frames.{kept_of}
use Rattle.moo_task.specs.Variables.{variable_of}
use Rattle.moo_task.specs.declared.frame.Frame.{Frame}
use Rattle.moo_task.specs.declared.variables.Variable.{Variable}
use Rattle.moo_task.specs.Copying.{forked_kept, HasCopied}

abbrev pub keys : List (Text × Datum) → List Text
keys es = map (λ e. e.0) es

-- ---- the verb that begins

frame_sorted : (f : Frame) → IsTrue (is_named (kept_of f).variables)
frame_sorted f =
    let names : List Text = names_of f.program in
    variables_sorted (others names f.further) names f.state.slots.items (others_sorted names f.further)

pub begins : (f : Frame) (body : Program) (own : List Text) (further : List (Text × Datum)) (slots : List (Option Datum)) (c : Call) (s : Start) (st : List Datum)
    → known own ≡ names_of body → slots ≡ map (named (kept_of f).variables) (known own)
    → ((x : Text) → has_name (known own) x ≡ false → named further x ≡ named (kept_of f).variables x) → c ≡ f.call → s ≡ f.start → st ≡ []
    → record { call = c; start = s; program = body; variables = variables_with body further slots; place = 0; operands = st } ≡ forked_kept (kept_of f) body
begins f body own further slots c s st same_names slots_are alike call_is start_is none =
    let table : Named Datum = (kept_of f).variables in
    let by_names : (x : Text) → has_name (names_of body) x ≡ false → named further x ≡ named table x =
    λ x absent. alike x (ap (λ ns. has_name ns x) same_names ∙ absent) in
    let all : variables_with body further slots ≡ table =
    ap (variables_with body further) (slots_are ∙ ap (map (named table)) same_names) ∙ table_is_split table (names_of body) further (frame_sorted f) by_names in
    λ i. record { call = call_is i; start = start_is i; program = body; variables = all i; place = 0; operands = none i }

-- ---- values of names

module _ (table : Named Datum) where
  pub own_from_start : (own : List Text) (slots : List (Option Datum)) → slots ≡ map (named table) starting_names
      → slots ≡ map (named table) starting_names ++ map (named table) (take 0 own)
  own_from_start own slots e = e ∙ sym (append-nil (map (named table) starting_names))

  pub next_own : (own : List Text) (i : ℕ) (x : Text) (slots new : List (Option Datum)) (v : Option Datum) → i < length own → x ≡ get_or own i x
      → slots ≡ map (named table) starting_names ++ map (named table) (take i own) → v ≡ named table x → new ≡ slots ++ v ∷ []
      → new ≡ map (named table) starting_names ++ map (named table) (take (i + 1) own)
  next_own own i x slots new v small is before value pushed =
      let firsts : List (Option Datum) = map (named table) starting_names in
      pushed ∙ ap (λ us. us ++ v ∷ []) before ∙ append_assoc firsts (map (named table) (take i own)) (v ∷ [])
      ∙ ap (λ u. firsts ++ (map (named table) (take i own) ++ u ∷ [])) (value ∙ ap (named table) is)
      ∙ ap (λ us. firsts ++ us) (sym (map-append (named table) (take i own) (get_or own i x ∷ [])) ∙ ap (map (named table)) (sym (take_more own i x small)))

  pub all_values : (own : List Text) (n : ℕ) → length own ≤ n → map (named table) starting_names ++ map (named table) (take n own) ≡ map (named table) (known own)
  unfolding known
  all_values own n all =
      ap (λ us. map (named table) starting_names ++ map (named table) us) (take_all n own all) ∙ sym (map-append (named table) starting_names own)

  pub next_starting : (names : List (Bor Text)) (i : ℕ) (b : Bor Text) (slots new : List (Option Datum)) (v : Option Datum) → i < length names → b ≡ get_or names i b
      → slots ≡ map (named table) (map (λ (s : Bor Text). s.now) (take i names)) → v ≡ named table b.now → new ≡ slots ++ v ∷ []
      → new ≡ map (named table) (map (λ (s : Bor Text). s.now) (take (i + 1) names))
  next_starting names i b slots new v small is before value pushed =
      let texts : List (Bor Text) → List Text = map (λ s. s.now) in
      pushed ∙ ap (λ us. us ++ v ∷ []) before
      ∙ ap (λ u. map (named table) (texts (take i names)) ++ u ∷ []) (value ∙ ap (λ (s : Bor Text). named table s.now) is)
      ∙ sym (map-append (named table) (texts (take i names)) ((get_or names i b).now ∷ []))
      ∙ ap (map (named table)) (sym (map-append (λ (s : Bor Text). s.now) (take i names) (get_or names i b ∷ [])) ∙ ap texts (sym (take_more names i b small)))

-- ---- copies

no_name : (a b : Bool) → (a || b) ≡ false → (a ≡ false) × (b ≡ false)
no_name true b h = absurd (cc)
no_name false b h = (refl, h)

-- no variable is copied, and all are still to come
pub none_copied : (f : Frame) (names own : List Text) → known own ≡ names_of f.program → HasCopied (known names) (kept_of f).variables [] (own ++ keys f.further)
unfolding known
none_copied f names own same_names = record { sound = λ x absent. inl refl; complete = λ x absent gone. sym (without x absent gone) }
  where
    no_value : (o : Option Datum) → is_some o ≡ false → o ≡ None
    no_value None h = refl
    no_value (Some v) h = absurd (cc)

    without : (x : Text) → has_name (known names) x ≡ false → has_name (own ++ keys f.further) x ≡ false → named (kept_of f).variables x ≡ None
    without x absent gone =
        let starts : has_name starting_names x ≡ false = (no_name _ _ (sym (list_any-append (same_text x) starting_names names) ∙ absent)).0 in
        let rest : (has_name own x ≡ false) × (has_name (keys f.further) x ≡ false) = no_name _ _ (sym (list_any-append (same_text x) own (keys f.further)) ∙ gone) in
        let unnamed : has_name (names_of f.program) x ≡ false =
        ap (λ ns. has_name ns x) (sym same_names) ∙ list_any-append (same_text x) starting_names own
        ∙ ap (λ b. b || has_name own x) starts ∙ rest.0 in
        others_stay (others (names_of f.program) f.further) (names_of f.program) f.state.slots.items x unnamed
        ∙ others_named (names_of f.program) f.further x ∙ ap (λ b. if b then None else named f.further x) unnamed
        ∙ no_value (named f.further x) (key_there f.further x ∙ rest.1)

-- the first value that there is
abbrev or_else : Option Datum → Option Datum → Option Datum
or_else None p = p
or_else (Some v) p = Some v

named_more : (es : List (Text × Datum)) (n : Text) (v : Datum) (x : Text) → named (es ++ (n, v) ∷ []) x ≡ or_else (named es x) (cond (same_text x n) (Some v) None)
named_more [] n v x = ap (λ b. cond b (Some v) None) (sought x n)
named_more (e ∷ es) n v x =
    ap (λ b. cond b (Some e.1) (named (es ++ (n, v) ∷ []) x)) (sought x e.0) ∙ go (same_text x e.0) (named_more es n v x)
    ∙ sym (ap (λ b. or_else (cond b (Some e.1) (named es x)) (cond (same_text x n) (Some v) None)) (sought x e.0))
  where
    go : (b : Bool) → named (es ++ (n, v) ∷ []) x ≡ or_else (named es x) (cond (same_text x n) (Some v) None)
        → cond b (Some e.1) (named (es ++ (n, v) ∷ []) x) ≡ or_else (cond b (Some e.1) (named es x)) (cond (same_text x n) (Some v) None)
    go true h = refl
    go false h = h

module _ (names : List Text) (table : Named Datum) (n : Text) (rest : List Text) where
  -- one that the program names
  pub named_there : (copies : List (Text × Datum)) → has_name names n ≡ true → HasCopied names table copies (n ∷ rest) → HasCopied names table copies rest
  named_there copies there h = record { sound = h.sound; complete = λ x absent gone. go x absent gone (same_text x n) refl }
    where
      go : (x : Text) → has_name names x ≡ false → has_name rest x ≡ false → (b : Bool) → same_text x n ≡ b → named copies x ≡ named table x
      go x absent gone true same =
          let z : has_name names x ≡ true = ap (has_name names) (same_texts x n same) ∙ there in
          absurd (cc (z, absent))
      go x absent gone false other = h.complete x absent (ap (λ b. b || has_name rest x) other ∙ gone)

  -- one without a value
  pub without_value : (copies : List (Text × Datum)) → None ≡ named table n → HasCopied names table copies (n ∷ rest) → HasCopied names table copies rest
  without_value copies none h = record { sound = h.sound; complete = λ x absent gone. go x absent gone (same_text x n) refl }
    where
      either : (x : Text) → x ≡ n → (named copies x ≡ None) ⊎ (named copies x ≡ named table x) → named copies x ≡ named table x
      either x same (inl e) = e ∙ none ∙ ap (named table) (sym same)
      either x same (inr e) = e

      go : (x : Text) → has_name names x ≡ false → has_name rest x ≡ false → (b : Bool) → same_text x n ≡ b → named copies x ≡ named table x
      go x absent gone true same = either x (same_texts x n same) (h.sound x absent)
      go x absent gone false other = h.complete x absent (ap (λ b. b || has_name rest x) other ∙ gone)

  -- one that is copied
  module _ (copies : List (Text × Datum)) (v : Datum) (is : Some v ≡ named table n) where
    its_value : (x : Text) → same_text x n ≡ true → Some v ≡ named table x
    its_value x same = is ∙ ap (named table) (sym (same_texts x n same))

    first_sound : (x : Text) (o : Option Datum) (b : Bool) → same_text x n ≡ b → (o ≡ None) ⊎ (o ≡ named table x)
        → (or_else o (cond b (Some v) None) ≡ None) ⊎ (or_else o (cond b (Some v) None) ≡ named table x)
    first_sound x None true same e = inr (its_value x same)
    first_sound x None false other e = inl refl
    first_sound x (Some w) b same (inl e) = absurd (cc)
    first_sound x (Some w) b same (inr e) = inr e

    some_value : (x : Text) (w : Datum) → named copies x ≡ Some w → (named copies x ≡ None) ⊎ (named copies x ≡ named table x) → Some w ≡ named table x
    some_value x w now (inl e) = let z : Some w ≡ None = sym now ∙ e in absurd (cc)
    some_value x w now (inr e) = sym now ∙ e

    first_complete : HasCopied names table copies (n ∷ rest) → (x : Text) → has_name names x ≡ false → has_name rest x ≡ false → (o : Option Datum) → named copies x ≡ o
        → (b : Bool) → same_text x n ≡ b → or_else o (cond b (Some v) None) ≡ named table x
    first_complete h x absent gone None now true same = its_value x same
    first_complete h x absent gone None now false other = sym now ∙ h.complete x absent (ap (λ b. b || has_name rest x) other ∙ gone)
    first_complete h x absent gone (Some w) now b same = some_value x w now (h.sound x absent)

    with_one : HasCopied names table copies (n ∷ rest) → HasCopied names table (copies ++ (n, v) ∷ []) rest
    with_one h =
        record {
          sound = λ x absent.
              subst (λ p. (p ≡ None) ⊎ (p ≡ named table x)) (sym (named_more copies n v x)) (first_sound x (named copies x) (same_text x n) refl (h.sound x absent));
          complete = λ x absent gone. named_more copies n v x ∙ first_complete h x absent gone (named copies x) refl (same_text x n) refl;
        }

  pub copied_one : (vs new : List Variable) (u : Variable) → new ≡ vs ++ u ∷ [] → u.name ≡ n → Some u.value ≡ named table n
      → HasCopied names table (map variable_of vs) (n ∷ rest) → HasCopied names table (map variable_of new) rest
  copied_one vs new u added name_is is h =
      let all : map variable_of vs ++ (n, u.value) ∷ [] ≡ map variable_of new =
      ap (λ y. map variable_of vs ++ (y, u.value) ∷ []) (sym name_is) ∙ sym (map-append variable_of vs (u ∷ [])) ∙ ap (map variable_of) (sym added) in
      subst (λ es. HasCopied names table es rest) all (with_one (map variable_of vs) u.value is h)

-- ---- those that are still to come

module _ {X : Type 0} where
  later : (xs : List X) (i : ℕ) (x : X) → i < length xs → x ≡ get_or xs i x → drop i xs ≡ x ∷ drop (i + 1) xs
  later xs i x small is = drop-cons xs i x small ∙ ap (λ z. z ∷ drop (suc i) xs) (sym is) ∙ ap (λ n. x ∷ drop n xs) (sym (add-one i))

later_variable : (vs : List Variable) (i : ℕ) (u : Variable) → i < length vs → u ≡ get_or vs i u
    → keys (map variable_of (drop i vs)) ≡ u.name ∷ keys (map variable_of (drop (i + 1) vs))
later_variable vs i u small is = ap (λ us. keys (map variable_of us)) (later vs i u small is)

module _ (names : List Text) (table : Named Datum) (copies : List (Text × Datum)) where
  pub next_name : (own : List Text) (i : ℕ) (x : Text) (more : List Text) → i < length own → x ≡ get_or own i x
      → HasCopied names table copies (drop i own ++ more) → HasCopied names table copies (x ∷ (drop (i + 1) own ++ more))
  next_name own i x more small is h = subst (λ ns. HasCopied names table copies (ns ++ more)) (later own i x small is) h

  pub next_variable : (vs : List Variable) (i : ℕ) (u : Variable) → i < length vs → u ≡ get_or vs i u
      → HasCopied names table copies (keys (map variable_of (drop i vs))) → HasCopied names table copies (u.name ∷ keys (map variable_of (drop (i + 1) vs)))
  next_variable vs i u small is h = subst (λ ns. HasCopied names table copies ns) (later_variable vs i u small is) h

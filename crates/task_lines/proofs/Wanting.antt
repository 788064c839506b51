-- What is wanted one by one is what can be held along a path.
use Rattle.std.proofs.Common.{◌≡◌, ◌∙◌, ap, sym, refl, subst, ℕ, ◌+◌, ◌&&◌, pos, negsuc, Bool, true, false, List, [], ◌∷◌, ◌++◌, map, length, take, Option, Some, None, IsTrue, append_assoc, length-append, if◌then◌else◌, arith}
use Rattle.std.specs.Prelude.{option_map}
use Rattle.std.specs.declared.vec.Vec.{Vec}
use Rattle.std.specs.declared.alloc.Global.{Global}
use Rattle.std.proofs.lemmas.List.{append-nil, length-map}
use Rattle.std.proofs.Math.Bool.{and-true}
use Rattle.spec_value.specs.Datum.{Datum, integer, object, text, error, list}
use Rattle.spec_value.proofs.Entries.{first_holds, second_holds}
use Rattle.spec_program.specs.Construct.{Construct}
use Rattle.spec_program.specs.Place.{Kind, any_value, any_list, code_list, all_codes, Holds, holds, walks_list, walks_range, why_left, Part, part_at, held_count, is_call}
use Rattle.spec_world.specs.WellFormed.{kind_fits, kinds_fit, held_fits, is_loop}
use Rattle.spec_faults.specs.Codes as faults
use Rattle.spec_faults.specs.Codes.{holds_down, total, begins_held}
use Rattle.held_values.specs.declared.fits.Wanted.{Wanted}
use Rattle.held_values.specs.Wanted.{has_items, is_counted, wanted_fits, of_kind, wanted_in, in_part, in_tree, if_call, wanted_down}
use Rattle.held_values.proofs.ValueKinds.{kinds_and_one}
use Rattle.task_lines.specs.Wanting.{wanted_for, GoesWith, IsWantedBy}

-- ---- value by value

-- what is wanted next, and then the rest, whatever fits
abbrev pub Follows : ℕ → Holds → List Datum → Option Datum → List Wanted → Type 0
Follows around h us before [] = Unit {0}
Follows around h us before (w ∷ ws) = GoesWith around h us w before × ((v : Datum) → IsTrue (wanted_fits w before v) → Follows around h (us ++ v ∷ []) (Some v) ws)

kind_wanted : (k : Kind) (before : Option Datum) (v : Datum) → kind_fits k v ≡ wanted_fits (of_kind k) before v
kind_wanted any_value before v = refl
kind_wanted any_list before v = refl
kind_wanted all_codes before v = refl
kind_wanted code_list before (integer n) = refl
kind_wanted code_list before (object n) = refl
kind_wanted code_list before (text t) = refl
kind_wanted code_list before (error e) = refl
kind_wanted code_list before (list vs) = refl

kinds_next : (ks js : List Kind) (k : Kind) (us : List Datum) (v : Datum) → IsTrue (kinds_fit ks us) → kinds_fit (take (length (us ++ v ∷ [])) (ks ++ k ∷ js)) (us ++ v ∷ []) ≡ kind_fits k v
kinds_next [] js k [] v h = and-true (kind_fits k v)
kinds_next [] js k (u ∷ us) v h = absurd (cc)
kinds_next (x ∷ ks) js k [] v h = absurd (cc)
kinds_next (x ∷ ks) js k (u ∷ us) v h =
    ap (λ b. b && kinds_fit (take (length (us ++ v ∷ [])) (ks ++ k ∷ js)) (us ++ v ∷ [])) (first_holds (kind_fits x u) (kinds_fit ks us) h)
    ∙ kinds_next ks js k us v (second_holds (kind_fits x u) (kinds_fit ks us) h)

kinds_follow : (around : ℕ) (ks js : List Kind) (us : List Datum) (before : Option Datum) → IsTrue (kinds_fit ks us) → Follows around (holds (ks ++ js)) us before (map of_kind js)
kinds_follow around ks [] us before h = tt
kinds_follow around ks (j ∷ js) us before h = (
  λ v. kinds_next ks js j us v h ∙ kind_wanted j before v,
  λ v fits. subst (λ xs. Follows around (holds xs) (us ++ v ∷ []) (Some v) (map of_kind js)) (append_assoc ks (j ∷ []) js)
      (kinds_follow around (ks ++ j ∷ []) js (us ++ v ∷ []) (Some v) (kinds_and_one ks j us v h (kind_wanted j before v ∙ fits))),
)

list_first : (around : ℕ) (v : Datum) → begins_held around walks_list (v ∷ []) ≡ has_items v
list_first around (integer n) = refl
list_first around (object n) = refl
list_first around (text t) = refl
list_first around (error e) = refl
list_first around (list vs) = refl

list_second : (around : ℕ) (v w : Datum) → begins_held around walks_list (v ∷ w ∷ []) ≡ held_fits 0 walks_list (v ∷ w ∷ [])
list_second around (integer n) w = refl
list_second around (object n) w = refl
list_second around (text t) w = refl
list_second around (error e) w = refl
list_second around (list vs) (integer (pos k)) = refl
list_second around (list vs) (integer (negsuc k)) = refl
list_second around (list vs) (object n) = refl
list_second around (list vs) (text t) = refl
list_second around (list vs) (error e) = refl
list_second around (list vs) (list ws) = refl

range_first : (around : ℕ) (v : Datum) → begins_held around walks_range (v ∷ []) ≡ is_counted v
range_first around (integer n) = refl
range_first around (object n) = refl
range_first around (text t) = refl
range_first around (error e) = refl
range_first around (list vs) = refl

range_second : (around : ℕ) (v w : Datum) → begins_held around walks_range (v ∷ w ∷ []) ≡ held_fits 0 walks_range (v ∷ w ∷ [])
range_second around (integer n) (integer m) = refl
range_second around (integer n) (object m) = refl
range_second around (integer n) (text t) = refl
range_second around (integer n) (error e) = refl
range_second around (integer n) (list vs) = refl
range_second around (object n) (integer m) = refl
range_second around (object n) (object m) = refl
range_second around (object n) (text t) = refl
range_second around (object n) (error e) = refl
range_second around (object n) (list vs) = refl
range_second around (text t) w = refl
range_second around (error e) w = refl
range_second around (list vs) w = refl

pub all_follow : (around : ℕ) (h : Holds) (before : Option Datum) → Follows around h [] before (wanted_in around h)
all_follow around (holds kinds) before = kinds_follow around [] kinds [] before refl
all_follow around walks_list before = (list_first around, λ v fits. (list_second around v, λ w more. tt))
all_follow around walks_range before = (range_first around, λ v fits. (range_second around v, λ w more. tt))
all_follow around why_left before = (λ v. refl, λ v fits. tt)

-- ---- how many

pub as_many_wanted : (around : ℕ) (h : Holds) → held_count h ≡ length (wanted_in around h)
as_many_wanted around (holds kinds) = sym (length-map kinds of_kind)
as_many_wanted around walks_list = refl
as_many_wanted around walks_range = refl
as_many_wanted around why_left = refl

pub all_wanted : (hs : List (ℕ × Holds)) → total hs ≡ length (wanted_for hs)
all_wanted [] = refl
all_wanted (h ∷ hs) = (λ i. as_many_wanted h.0 h.1 i + all_wanted hs i) ∙ sym (length-append (wanted_in h.0 h.1) (wanted_for hs))

-- ---- down a path

abbrev behind : List Wanted → List (ℕ × Holds) → List Wanted
behind ws hs = ws ++ wanted_for hs

at_end : (ws : List Wanted) (b : Bool) → if_call b ws ≡ option_map (behind ws) (if b then Some [] else None)
at_end ws true = ap Some (sym (append-nil ws))
at_end ws false = refl

mapped : (ws : List Wanted) (h : ℕ × Holds) (o : Option (List (ℕ × Holds))) → option_map (behind (ws ++ wanted_in h.0 h.1)) o ≡ option_map (behind ws) (option_map (λ hs. h ∷ hs) o)
mapped ws h None = refl
mapped ws h (Some hs) = ap Some (append_assoc ws (wanted_in h.0 h.1) (wanted_for hs))

-- whatever construct the path goes on from
abbrev Further : List ℕ → Type 0
Further path = (around : ℕ) (ws : List Wanted) (c : Construct) → wanted_down around ws c path ≡ option_map (behind ws) (holds_down around c path)

tree_wanted : (around : ℕ) (ws : List Wanted) (c : Construct) (path : List ℕ) (h : Holds) (t : Option Construct) → Further path
    → in_tree t (λ d. wanted_down (around + is_loop c) (ws ++ wanted_in around h) d path) ≡ option_map (behind ws) (faults.in_tree (around, h) t (λ d. holds_down (is_loop c + around) d path))
tree_wanted around ws c path h None f = refl
tree_wanted around ws c path h (Some d) f =
    let same : around + is_loop c ≡ is_loop c + around = omega arith in
    ap (λ n. wanted_down n (ws ++ wanted_in around h) d path) same
    ∙ f (is_loop c + around) (ws ++ wanted_in around h) d
    ∙ mapped ws (around, h) (holds_down (is_loop c + around) d path)

part_wanted : (around : ℕ) (ws : List Wanted) (c : Construct) (path : List ℕ) (o : Option Part) → Further path
    → in_part o (λ x. in_tree x.tree (λ d. wanted_down (around + is_loop c) (ws ++ wanted_in around x.held) d path))
    ≡ option_map (behind ws) (faults.in_part around o (λ d. holds_down (is_loop c + around) d path))
part_wanted around ws c path None f = refl
part_wanted around ws c path (Some x) f = tree_wanted around ws c path x.held x.tree f

wanted_behind : (path : List ℕ) → Further path
wanted_behind [] around ws c = at_end ws (is_call c)
wanted_behind (n ∷ path) around ws c = part_wanted around ws c path (part_at c n) (λ a us d. wanted_behind path a us d)

pub wanted_along : (c : Construct) (path : List ℕ) → wanted_down 0 [] c path ≡ option_map wanted_for (holds_down 0 c path)
wanted_along c path = wanted_behind path 0 [] c

-- ---- where a verb stands

abbrev items_in : Option (Vec Wanted Global) → Option (List Wanted)
items_in o = option_map (λ v. v.items) o

pub none_stands : (c : Construct) (path : List ℕ) (o : Option (Vec Wanted Global)) → o ≡ None → items_in o ≡ wanted_down 0 [] c path → holds_down 0 c path ≡ None
none_stands c path o none e = go (holds_down 0 c path) (sym (ap items_in none) ∙ e ∙ wanted_along c path)
  where
    go : (q : Option (List (ℕ × Holds))) → None ≡ option_map wanted_for q → q ≡ None
    go None h = refl
    go (Some hs) h = absurd (cc)

pub some_stands : (c : Construct) (path : List ℕ) (o : Option (Vec Wanted Global)) (w : Vec Wanted Global) → o ≡ Some w → items_in o ≡ wanted_down 0 [] c path
    → (hs : List (ℕ × Holds)) × (holds_down 0 c path ≡ Some hs) × IsWantedBy hs w.items
some_stands c path o w some e = go (holds_down 0 c path) refl (sym (ap items_in some) ∙ e ∙ wanted_along c path)
  where
    go : (q : Option (List (ℕ × Holds))) → holds_down 0 c path ≡ q → Some w.items ≡ option_map wanted_for q → (hs : List (ℕ × Holds)) × (holds_down 0 c path ≡ Some hs) × IsWantedBy hs w.items
    go None down h = absurd (cc)
    go (Some hs) down h = (hs, down, cc)

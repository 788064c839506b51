-- What is seen of a machine that waits is true of the entries of its task.
use Rattle.std.proofs.Common.{◌≡◌, refl, sym, subst, ℕ, ◌≤◌, List, [], ◌∷◌, Option, Some, None, IsTrue, ◌&&◌, arith, nat_le, leb-true}
use Rattle.std.proofs.lemmas.Bool.Decides.{nat_tests}
use Rattle.std.specs.List.{list_all}
use Rattle.spec_program.specs.Construct.{Construct, Piece}
use Rattle.spec_program.specs.Trees.{program_fits}
use Rattle.spec_world.specs.World.{Entry, frame_entry, native_entry, Native}
use Rattle.spec_world.specs.WellFormed.{begins_with_frame, goes_on_after_frame, frames, frame_fits, entry_fits, native_fits, FramesStand}
use Rattle.spec_value.proofs.Entries.{first_holds, second_holds, both_hold}
use Rattle.spec_holding.specs.Whole.{entry_spelled}
use Rattle.moo_code.specs.Machine.{Kept, Outer, verb, native, verbs, entries}
use Rattle.moo_code.specs.Rebuilding.{entries_of, before_all, rebuilt, with_pieces}
use Rattle.moo_code.specs.Stands.{AllWait}
use Rattle.moo_code.proofs.Waiting.{same_frames}
use Rattle.world_checks.specs.Waiting.{begins_with_verb, goes_on_after_verb, AllFit, AllFound, OutersFit, OutersFound, AllSpelled}

-- ---- the order

mutual
  same_beginning : (es : List Entry) (ks : List Outer) → AllWait es ks → begins_with_verb ks ≡ begins_with_frame es
  same_beginning [] [] h = refl
  same_beginning (frame_entry f ∷ es) (verb k ∷ ks) h = same_rest es ks h.1
  same_beginning (native_entry n ∷ es) (native m ∷ ks) h = refl
  same_beginning [] (k ∷ ks) h = absurd h
  same_beginning (frame_entry f ∷ es) [] h = absurd h
  same_beginning (frame_entry f ∷ es) (native m ∷ ks) h = absurd h
  same_beginning (native_entry n ∷ es) [] h = absurd h
  same_beginning (native_entry n ∷ es) (verb k ∷ ks) h = absurd h

  same_rest : (es : List Entry) (ks : List Outer) → AllWait es ks → goes_on_after_verb ks ≡ goes_on_after_frame es
  same_rest [] [] h = refl
  same_rest (frame_entry f ∷ es) (verb k ∷ ks) h = same_rest es ks h.1
  same_rest (native_entry n ∷ es) (native m ∷ ks) h = same_beginning es ks h.1
  same_rest [] (k ∷ ks) h = absurd h
  same_rest (frame_entry f ∷ es) [] h = absurd h
  same_rest (frame_entry f ∷ es) (native m ∷ ks) h = absurd h
  same_rest (native_entry n ∷ es) [] h = absurd h
  same_rest (native_entry n ∷ es) (verb k ∷ ks) h = absurd h

-- ---- what each holds

all_told : (es : List Entry) (ks : List Outer) → AllWait es ks → FramesStand es → AllFit ks → IsTrue (list_all entry_fits es)
all_told [] [] h s g = refl
all_told (frame_entry f ∷ es) (verb k ∷ ks) h s g = both_hold _ _ (g.0 f h.0 s.0) (all_told es ks h.1 s.1 g.1)
all_told (native_entry n ∷ es) (native m ∷ ks) h s g =
    both_hold _ _ (subst (λ (o : Native). IsTrue (native_fits o.name o.stage o.arguments)) (sym h.0) g.0) (all_told es ks h.1 s g.1)
all_told [] (k ∷ ks) h s g = absurd h
all_told (frame_entry f ∷ es) [] h s g = absurd h
all_told (frame_entry f ∷ es) (native m ∷ ks) h s g = absurd h
all_told (native_entry n ∷ es) [] h s g = absurd h
all_told (native_entry n ∷ es) (verb k ∷ ks) h s g = absurd h

small_enough : (n m : ℕ) → n ≡ m → m ≤ 50 → IsTrue (nat_le n 50)
small_enough n m e le = grind (arith, nat_tests)

pub entries_told : (es : List Entry) (ks : List Outer) → AllWait es ks → FramesStand es → OutersFit ks
    → IsTrue (begins_with_frame es && nat_le (frames es) 50 && list_all entry_fits es)
entries_told es ks h s g =
    both_hold (begins_with_frame es && nat_le (frames es) 50) _
    (both_hold (begins_with_frame es) _ (subst (λ b. IsTrue b) (same_beginning es ks h) g.order)
    (small_enough (frames es) (verbs ks) (same_frames es ks h) g.few))
    (all_told es ks h s g.each)

-- ---- what texts spell

spelled_found : (k : Kept) (ks : List Outer) (es : List Entry) (r : Option (Construct × List Piece)) (rest : Option (List Entry)) → before_all (with_pieces k r) rest ≡ Some es
    → ((fs : List Entry) → rest ≡ Some fs → IsTrue (list_all entry_spelled fs)) → IsTrue (program_fits [] k.program) → IsTrue (list_all entry_spelled es)
spelled_found k ks es None rest e later own = cc
spelled_found k ks es (Some found) None e later own = cc
spelled_found k ks es (Some found) (Some fs) e later own =
    let is : frame_entry (record { call = k.call; start = k.start; program = k.program; variables = k.variables; pieces = found.1 }) ∷ fs ≡ es = cc in
    subst (λ (gs : List Entry). IsTrue (list_all entry_spelled gs)) is (both_hold (program_fits [] k.program) _ own (later fs refl))

spelled_behind : (n : Native) (es : List Entry) (rest : Option (List Entry)) → before_all (Some (native_entry n)) rest ≡ Some es
    → ((fs : List Entry) → rest ≡ Some fs → IsTrue (list_all entry_spelled fs)) → IsTrue (list_all entry_spelled es)
spelled_behind n es None e later = cc
spelled_behind n es (Some fs) e later =
    let is : native_entry n ∷ fs ≡ es = cc in
    subst (λ (gs : List Entry). IsTrue (list_all entry_spelled gs)) is (later fs refl)

pub rebuilt_spelled : (ks : List Outer) (es : List Entry) → entries_of ks ≡ Some es → AllSpelled ks → IsTrue (list_all entry_spelled es)
rebuilt_spelled [] es e h = let is : [] ≡ es = cc in subst (λ (gs : List Entry). IsTrue (list_all entry_spelled gs)) is refl
rebuilt_spelled (verb k ∷ ks) es e h = spelled_found k ks es (rebuilt k) (entries_of ks) e (λ fs is. rebuilt_spelled ks fs is h.1) h.0
rebuilt_spelled (native n ∷ ks) es e h = spelled_behind n es (entries_of ks) e (λ fs is. rebuilt_spelled ks fs is h.1)

pub plain_spelled : (ks : List Outer) → AllSpelled ks → IsTrue (list_all entry_spelled (entries ks))
plain_spelled [] h = refl
plain_spelled (verb k ∷ ks) h = both_hold (program_fits [] k.program) _ h.0 (plain_spelled ks h.1)
plain_spelled (native n ∷ ks) h = plain_spelled ks h.1

-- ---- and the other way round

all_found : (es : List Entry) (ks : List Outer) → AllWait es ks → FramesStand es → IsTrue (list_all entry_fits es) → AllFound ks
all_found [] [] h s g = tt
all_found (frame_entry f ∷ es) (verb k ∷ ks) h s g = (
  record { frame = f; waits = h.0; stands = s.0; fits = first_holds (frame_fits f) _ g },
  all_found es ks h.1 s.1 (second_holds (frame_fits f) _ g),
)
all_found (native_entry n ∷ es) (native m ∷ ks) h s g = (
  subst (λ (o : Native). IsTrue (native_fits o.name o.stage o.arguments)) h.0 (first_holds (native_fits n.name n.stage n.arguments) _ g),
  all_found es ks h.1 s (second_holds (native_fits n.name n.stage n.arguments) _ g),
)
all_found [] (k ∷ ks) h s g = absurd h
all_found (frame_entry f ∷ es) [] h s g = absurd h
all_found (frame_entry f ∷ es) (native m ∷ ks) h s g = absurd h
all_found (native_entry n ∷ es) [] h s g = absurd h
all_found (native_entry n ∷ es) (verb k ∷ ks) h s g = absurd h

few_enough : (n m : ℕ) → n ≡ m → IsTrue (nat_le n 50) → m ≤ 50
few_enough n m e le = let most : n ≤ 50 = leb-true n 50 le in omega (arith, e, most)

pub entries_found : (es : List Entry) (ks : List Outer) → AllWait es ks → FramesStand es → IsTrue (begins_with_frame es && nat_le (frames es) 50 && list_all entry_fits es)
    → OutersFound ks
entries_found es ks h s g =
    let first = first_holds (begins_with_frame es && nat_le (frames es) 50) _ g in
    record {
      order = subst (λ b. IsTrue b) (sym (same_beginning es ks h)) (first_holds (begins_with_frame es) _ first);
      few = few_enough (frames es) (verbs ks) (same_frames es ks h) (second_holds (begins_with_frame es) _ first);
      each = all_found es ks h s (second_holds (begins_with_frame es && nat_le (frames es) 50) _ g);
    }

pub order_of : (ks : List Outer) → OutersFound ks → IsTrue (begins_with_verb ks)
order_of ks h = h.order

pub few_of : (ks : List Outer) → OutersFound ks → verbs ks ≤ 50
few_of ks h = h.few

pub each_of : (ks : List Outer) → OutersFound ks → AllFound ks
each_of ks h = h.each

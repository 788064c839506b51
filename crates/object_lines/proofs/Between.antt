-- Objects that stand one behind another: none, one, and those of two stretches.
use Rattle.std.proofs.Common.{◌≡◌, ◌≤◌, ◌<◌, ◌+◌, ◌-◌, ℕ, suc, ℤ, List, [], ◌∷◌, ◌++◌, length, map, drop, Some, IsTrue, refl, ap, sym, subst, ◌∙◌, arith, append_assoc}
use Rattle.std.proofs.lemmas.List.{map-append, length-append}
use Rattle.spec_value.specs.Datum.{Text}
use Rattle.spec_world.specs.World.{World, Object, object_at}
use Rattle.spec_world.specs.WellFormed.{IsWellFormed}
use Rattle.spec_world.specs.Checkpoint.{object_lines, each_object}
use Rattle.spec_faults.specs.Cutting.{lines_of}
use Rattle.spec_faults.specs.Faults.{fault_among}
use Rattle.spec_faults.specs.Awaited.{Awaited, again, group}
use Rattle.spec_faults.specs.Awaited as awaited
use Rattle.checkpoint_lines.specs.declared.lines.Lines.{Lines}
use Rattle.checkpoint_lines.specs.Rows.{Left}
use Rattle.checkpoint_lines.specs.Told.{HasRoom, GoesOn, fault_left}
use Rattle.checkpoint_lines.proofs.Telling.{goes_then, goes_behind}
use Rattle.checkpoint_lines.proofs.Going.{Goes, Counts, once_more}
use Rattle.named_objects.specs.declared.record.ObjectRecord.{ObjectRecord}
use Rattle.named_objects.specs.Told.{told, shown_object}
use Rattle.named_objects.proofs.Tables.{found_at}
use Rattle.object_lines.specs.Readable.{is_object_read}
use Rattle.object_lines.specs.Between.{AreBetween}
use Rattle.object_lines.proofs.Lists.{next_at, holds_at}
use Rattle.object_lines.proofs.ObjectParts.{objects_on}

-- awaited so many times
abbrev so_many : ℕ → List Awaited
so_many n = again n awaited.each_object ∷ []

-- ---- none

pub none_between : (l : Lines) → AreBetween l l []
none_between l =
    record {
      goes = λ n room. let same : 0 + n ≡ n = omega arith in record { fault = λ more. ap (λ k. fault_left l (again k awaited.each_object ∷ more)) same; lines = refl; room = room };
      reads = λ w i rest f h within left.
          let same : i + 0 ≡ i = omega arith in (
            subst (λ k. Left l (each_object w (drop k w.objects) ++ rest)) (sym same) left,
            ap (λ k. map (shown_object w) (drop k w.objects)) same,
          );
    }

-- ---- from another place where the same is left

pub from_same : (l k m : Lines) (rs : List ObjectRecord) → l.left.now ≡ k.left.now → l.count ≡ k.count → AreBetween k m rs → AreBetween l m rs
from_same l k m rs left count b =
    let same : (A : List Awaited) → fault_left l A ≡ fault_left k A = λ A.
    ap (λ n. fault_among (lines_of l.left.now).lines (lines_of l.left.now).rest (suc n) A) count
    ∙ ap (λ u. fault_among (lines_of u).lines (lines_of u).rest (suc k.count) A) left
    in
    let many : length (lines_of l.left.now).lines ≡ length (lines_of k.left.now).lines = ap (λ u. length (lines_of u).lines) left in
    let long : length l.left.now ≡ length k.left.now = ap length left in
    record {
      goes = λ n room.
          let there : HasRoom k = omega arith in
          let g = b.goes n there in
          record { fault = λ more. same (again (length rs + n) awaited.each_object ∷ more) ∙ g.fault more; lines = omega (arith, many, count, g.lines); room = g.room };
      reads = λ w i rest f h within is. b.reads w i rest f h within (sym left ∙ is.0, is.1);
    }

-- ---- one behind another

pub both_between : (l m k : Lines) (rs ss : List ObjectRecord) → AreBetween l m rs → AreBetween m k ss → AreBetween l k (rs ++ ss)
both_between l m k rs ss b c =
    let many : length (rs ++ ss) ≡ length rs + length ss = length-append rs ss in
    record {
      goes = λ n room.
          let before = b.goes (length ss + n) room in
          let all = goes_then l m k (so_many (length rs + (length ss + n))) (so_many (length ss + n)) (so_many n) before (c.goes n before.room) in
          let same : length rs + (length ss + n) ≡ length (rs ++ ss) + n = omega (arith, many) in
          subst (λ j. GoesOn l k (so_many j) (so_many n)) same all;
      reads = λ w i rest f h within left.
          let first = b.reads w i rest f h (omega (arith, many, within)) left in
          let second = c.reads w (i + length rs) rest f h (omega (arith, many, within)) first.0 in
          let at : (i + length rs) + length ss ≡ i + length (rs ++ ss) = omega (arith, many) in (
            subst (λ j. Left k (each_object w (drop j w.objects) ++ rest)) at second.0,
            ap (λ j. map told (rs ++ ss) ++ map (shown_object w) (drop j w.objects)) (sym at)
                ∙ ap (λ ts. ts ++ map (shown_object w) (drop ((i + length rs) + length ss) w.objects)) (map-append told rs ss)
                ∙ append_assoc (map told rs) (map told ss) (map (shown_object w) (drop ((i + length rs) + length ss) w.objects))
                ∙ ap (λ ts. map told rs ++ ts) second.1
                ∙ first.1,
          );
    }

-- ---- one object

-- what its reader promises
abbrev pub ReadsOne : Lines → Lines → ObjectRecord → Type 0
ReadsOne m k r =
    (w : World) (o : ℤ) (x : Object) (rest : List Text) → IsWellFormed w → object_at w o ≡ Some x → IsTrue (is_object_read (o, x)) → Left m (object_lines w o x ++ rest)
    → (told r ≡ shown_object w (o, x)) × Left k rest

pub one_between : (m k : Lines) (r : ObjectRecord) → ReadsOne m k r → Goes m k (group awaited.each_object) [] → AreBetween m k (r ∷ [])
one_between m k r one next =
    record {
      goes = λ n room.
          let all : GoesOn m k (so_many (suc n)) (so_many n) =
          goes_then m m k (so_many (suc n)) (group awaited.each_object ++ so_many n) (so_many n) (once_more m n awaited.each_object room)
          (goes_behind m k (group awaited.each_object) [] (so_many n) (next room))
          in
          let same : suc n ≡ 1 + n = omega arith in
          subst (λ j. GoesOn m k (so_many j) (so_many n)) same all;
      reads = λ w i rest f h within left.
          let inside : i < length w.objects = omega arith in
          let at = next_at w.objects i inside in
          let there = found_at w.objects i (at.0).0 (at.0).1 f.objects_in_order at.1 in
          let later : List (ℤ × Object) = drop (suc i) w.objects in
          let here = subst (λ us. Left m us) (objects_on w at.0 later rest) (subst (λ us. Left m (each_object w us ++ rest)) at.2 left) in
          let got = one w (at.0).0 (at.0).1 (each_object w later ++ rest) f there (holds_at is_object_read w.objects i at.0 at.1 h) here in
          let next : suc i ≡ i + 1 = omega arith in (
            subst (λ j. Left k (each_object w (drop j w.objects) ++ rest)) next got.1,
            ap (λ j. told r ∷ map (shown_object w) (drop j w.objects)) (sym next) ∙ ap (λ t. t ∷ map (shown_object w) later) got.0 ∙ ap (map (shown_object w)) (sym at.2),
          );
    }

-- and one more behind others
pub one_more_between : (l m k : Lines) (rs : List ObjectRecord) (r : ObjectRecord) → AreBetween l m rs → ReadsOne m k r → Goes m k (group awaited.each_object) [] → AreBetween l k (rs ++ r ∷ [])
one_more_between l m k rs r b one next = both_between l m k rs (r ∷ []) b (one_between m k r one next)

-- ---- so many of them

pub counts : (l m : Lines) (rs : List ObjectRecord) (count i : ℕ) → length rs ≡ i → i ≤ count → AreBetween l m rs → Counts l m count i awaited.each_object
counts l m rs count i many within b room =
    let whole : length rs + (count - i) ≡ count = omega arith in
    subst (λ n. GoesOn l m (so_many n) (so_many (count - i))) whole (b.goes (count - i) room)

-- The entries of a task, the outermost first, stand where they may.
use Rattle.std.proofs.Common.{◌≡◌, ◌∙◌, refl, sym, ap, subst, ℕ, suc, ◌+◌, ◌≤◌, not, Bool, true, false, List, [], ◌∷◌, ◌++◌, length, reverse, IsTrue, append_assoc, arith}
use Rattle.std.proofs.lemmas.Bool.{lt-ltb}
use Rattle.std.proofs.lemmas.List.{append-nil, reverse-append, length-reverse}
use Rattle.std.specs.Bool.{nat_lt}
use Rattle.spec_value.specs.Datum.{Text}
use Rattle.spec_value.proofs.Entries.{both_hold}
use Rattle.spec_world.specs.World.{Frame, Native, Entry, frame_entry, native_entry}
use Rattle.spec_world.specs.WellFormed.{begins_with_frame, goes_on_after_frame, frames, fork_fits}
use Rattle.spec_world.specs.Checkpoint.{entry_lines, each_entry}
use Rattle.task_lines.specs.Entries.{lines_of, may_follow, own_line, lines_behind}
use Rattle.task_lines.specs.Tasks.{OrderReads}

-- ---- turned round

one_frame : (f : Entry) (es : List Entry) → reverse (f ∷ es) ≡ reverse es ++ f ∷ []
one_frame f es = reverse-append (f ∷ []) es

mutual
  frame_behind : (es : List Entry) (f : Frame) → IsTrue (begins_with_frame es) → IsTrue (begins_with_frame (es ++ frame_entry f ∷ []))
  frame_behind [] f h = cc
  frame_behind (frame_entry g ∷ es) f h = frame_later es f h
  frame_behind (native_entry n ∷ es) f h = cc

  frame_later : (es : List Entry) (f : Frame) → IsTrue (goes_on_after_frame es) → IsTrue (goes_on_after_frame (es ++ frame_entry f ∷ []))
  frame_later [] f h = refl
  frame_later (frame_entry g ∷ es) f h = frame_later es f h
  frame_later (native_entry n ∷ es) f h = frame_behind es f h

mutual
  both_behind : (es : List Entry) (n : Native) (f : Frame) → IsTrue (begins_with_frame es) → IsTrue (begins_with_frame (es ++ native_entry n ∷ frame_entry f ∷ []))
  both_behind [] n f h = cc
  both_behind (frame_entry g ∷ es) n f h = both_later es n f h
  both_behind (native_entry m ∷ es) n f h = cc

  both_later : (es : List Entry) (n : Native) (f : Frame) → IsTrue (goes_on_after_frame es) → IsTrue (goes_on_after_frame (es ++ native_entry n ∷ frame_entry f ∷ []))
  both_later [] n f h = refl
  both_later (frame_entry g ∷ es) n f h = both_later es n f h
  both_later (native_entry m ∷ es) n f h = both_behind es n f h

turned : (es : List Entry) → IsTrue (begins_with_frame es) → IsTrue (begins_with_frame (reverse es))
turned [] h = cc
turned (native_entry n ∷ es) h = cc
turned (frame_entry f ∷ []) h = refl
turned (frame_entry f ∷ frame_entry g ∷ es) h =
    subst (λ xs. IsTrue (begins_with_frame xs)) (sym (one_frame (frame_entry f) (frame_entry g ∷ es))) (frame_behind (reverse (frame_entry g ∷ es)) f (turned (frame_entry g ∷ es) h))
turned (frame_entry f ∷ native_entry n ∷ es) h =
    let there : reverse (frame_entry f ∷ native_entry n ∷ es) ≡ reverse es ++ native_entry n ∷ frame_entry f ∷ [] =
    one_frame (frame_entry f) (native_entry n ∷ es) ∙ ap (λ xs. xs ++ frame_entry f ∷ []) (one_frame (native_entry n) es) ∙ append_assoc (reverse es) (native_entry n ∷ []) (frame_entry f ∷ []) in
    subst (λ xs. IsTrue (begins_with_frame xs)) (sym there) (both_behind (reverse es) n f (turned es h))

frames_both : (es fs : List Entry) → frames (es ++ fs) ≡ frames es + frames fs
frames_both [] fs = omega arith
frames_both (frame_entry f ∷ es) fs = let more = frames_both es fs in omega (arith, more)
frames_both (native_entry n ∷ es) fs = frames_both es fs

frames_turned : (es : List Entry) → frames (reverse es) ≡ frames es
frames_turned [] = refl
frames_turned (e ∷ es) = ap frames (one_frame e es) ∙ frames_both (reverse es) (e ∷ []) ∙ ap (λ n. n + frames (e ∷ [])) (frames_turned es) ∙ last e
  where
    last : (e : Entry) → frames es + frames (e ∷ []) ≡ frames (e ∷ es)
    last (frame_entry f) = omega arith
    last (native_entry n) = omega arith

-- ---- where they may stand

mutual
  after_frame : (verbs : ℕ) (es : List Entry) → IsTrue (goes_on_after_frame es) → frames es + verbs ≤ 50 → IsTrue (may_follow false false false verbs es)
  after_frame verbs [] h few = refl
  after_frame verbs (frame_entry f ∷ es) h few =
      both_hold (nat_lt verbs 50) _ (lt-ltb verbs 50 (omega (arith, few))) (after_frame (suc verbs) es h (omega (arith, few)))
  after_frame verbs (native_entry n ∷ []) h few = cc
  after_frame verbs (native_entry n ∷ e ∷ es) h few = after_native false verbs (e ∷ es) h few

  after_native : (first : Bool) (verbs : ℕ) (es : List Entry) → IsTrue (begins_with_frame es) → frames es + verbs ≤ 50 → IsTrue (may_follow false first (not first) verbs es)
  after_native first verbs [] h few = cc
  after_native first verbs (frame_entry f ∷ es) h few =
      both_hold (nat_lt verbs 50) _ (lt-ltb verbs 50 (omega (arith, few))) (after_frame (suc verbs) es h (omega (arith, few)))
  after_native first verbs (native_entry n ∷ es) h few = cc

pub calls_follow : (es : List Entry) → IsTrue (begins_with_frame es) → frames es ≤ 50 → IsTrue (may_follow false true false 0 (reverse es))
calls_follow es h few = let count = frames_turned es in after_native true 0 (reverse es) (turned es h) (omega (arith, few, count))

pub fork_follows : (es : List Entry) → IsTrue (fork_fits es) → IsTrue (may_follow true true false 0 (reverse es))
fork_follows [] h = cc
fork_follows (native_entry n ∷ es) h = cc
fork_follows (frame_entry f ∷ e ∷ es) h = cc
fork_follows (frame_entry f ∷ []) h = refl

pub order_follows : (is_fork : Bool) (es : List Entry) → OrderReads is_fork es → IsTrue (may_follow is_fork true false 0 (reverse es))
order_follows true es h = fork_follows es h
order_follows false es h = calls_follow es h.0 h.1

-- ---- lines

lines_both : (es fs : List Entry) → lines_of (es ++ fs) ≡ lines_of es ++ lines_of fs
lines_both [] fs = refl
lines_both (e ∷ es) fs = ap (λ l. entry_lines e ++ l) (lines_both es fs) ∙ sym (append_assoc (entry_lines e) (lines_of es) (lines_of fs))

pub lines_turned : (es : List Entry) → each_entry es ≡ lines_of (reverse es)
lines_turned [] = refl
lines_turned (e ∷ es) =
    ap (λ l. l ++ entry_lines e) (lines_turned es)
    ∙ ap (λ l. lines_of (reverse es) ++ l) (sym (append-nil (entry_lines e)))
    ∙ sym (lines_both (reverse es) (e ∷ [])) ∙ ap lines_of (sym (one_frame e es))

pub own_first : (e : Entry) → entry_lines e ≡ own_line e ∷ lines_behind e
own_first (frame_entry f) = refl
own_first (native_entry n) = refl

pub as_many_lines : (es : List Entry) (rest : List Text) → length es ≤ length (lines_of es ++ rest)
as_many_lines [] rest = omega arith
as_many_lines (frame_entry f ∷ es) rest =
    let more = as_many_lines es rest in
    let behind = longer (lines_behind (frame_entry f)) (lines_of es ++ rest) in
    let same : length (lines_of (frame_entry f ∷ es) ++ rest) ≡ suc (length (lines_behind (frame_entry f) ++ (lines_of es ++ rest))) =
    ap (λ l. suc (length l)) (append_assoc (lines_behind (frame_entry f)) (lines_of es) rest) in
    omega (arith, more, behind, same)
  where
    longer : (ts us : List Text) → length us ≤ length (ts ++ us)
    longer [] us = omega arith
    longer (t ∷ ts) us = let rest = longer ts us in omega (arith, rest)
as_many_lines (native_entry n ∷ es) rest = let more = as_many_lines es rest in omega (arith, more)

pub entries_counted : (es : List Entry) (rest : List Text) → length es ≤ length (each_entry es ++ rest)
entries_counted es rest =
    let many = as_many_lines (reverse es) rest in
    let turned = ap (λ (ts : List Text). length (ts ++ rest)) (lines_turned es) in
    let count = length-reverse es in omega (arith, many, turned, count)

-- So many lines of a text, one after another.
use Rattle.std.proofs.Common.{◌≡◌, ℕ, suc, ◌+◌, ◌-◌, ◌<◌, List, [], ◌∷◌, ◌++◌, length, take, Result, Err, IsTrue, refl, ap, sym, subst, ◌∙◌, arith, append_assoc, length-append}
use Rattle.std.proofs.lemmas.List.{append-nil}
use Rattle.std.proofs.Math.Seq.{take-append_seam}
use Rattle.std.specs.Borrow.{Bor}
use Rattle.spec_value.specs.Datum.{Text}
use Rattle.spec_value.proofs.Entries.{first_holds, second_holds, both_hold}
use Rattle.spec_world.specs.Checkpoint.{with_line_ends}
use Rattle.spec_checkpoint.specs.Lines.{is_line, are_lines}
use Rattle.spec_faults.specs.Cutting.{Cut, lines_of}
use Rattle.spec_faults.proofs.LinesBack.{lines_spelled}
use Rattle.checkpoint_lines.specs.declared.fault.DecodeError.{DecodeError}
use Rattle.checkpoint_lines.specs.declared.fault.DecodeError.TheVariants.{Line}
use Rattle.checkpoint_lines.specs.declared.fault.FaultKind.TheVariants as kind
use Rattle.checkpoint_lines.specs.declared.lines.Lines.{Lines}
use Rattle.checkpoint_lines.specs.Told.{lines_in, HasRoom, IsNext, IsOver, AreNext, NextLines}
use Rattle.checkpoint_lines.proofs.Rests.{ends_append}

-- so many lines were read since
pub record Passed (l m : Lines) (n : ℕ) : Type 0 where
  pub lines : List Text
  pub many : length lines ≡ n
  pub cut : lines_of l.left.now ≡ record { lines = lines ++ (lines_of m.left.now).lines; rest = (lines_of m.left.now).rest }
  pub count : m.count ≡ l.count + n
  pub room : HasRoom m

pub passed_none : (l : Lines) → HasRoom l → Passed l l 0
passed_none l room = record { lines = []; many = refl; cut = refl; count = omega arith; room = room }

pub passed_more : (l m k : Lines) (line : Text) (n : ℕ) → Passed l m n → IsNext line m k → Passed l k (n + 1)
passed_more l m k line n p next =
    let longer = length-append p.lines (line ∷ []) in
    let was = p.many in
    let before = p.count in
    let after = next.count in
    record {
      lines = p.lines ++ line ∷ [];
      many = omega arith;
      cut = p.cut ∙ ap (λ j. record { lines = p.lines ++ j.lines; rest = j.rest }) next.cut
          ∙ ap (λ ts. record { lines = ts; rest = (lines_of k.left.now).rest }) (sym (append_assoc p.lines (line ∷ []) (lines_of k.left.now).lines));
      count = omega arith;
      room = next.room;
    }

front_lines : (ts us : List Text) → IsTrue (are_lines (ts ++ us)) → IsTrue (are_lines ts)
front_lines [] us h = refl
front_lines (t ∷ ts) us h = both_hold (is_line t) (are_lines ts) (first_holds (is_line t) (are_lines (ts ++ us)) h) (front_lines ts us (second_holds (is_line t) (are_lines (ts ++ us)) h))

-- all that were wanted
pub are_next : (l m : Lines) (n i size : ℕ) → Passed l m i → i ≡ n → size ≡ length l.left.now - length m.left.now → AreNext (take size l.left.now) n l m
are_next l m n i size p all is =
    let ts : List Text = p.lines in
    let k : Cut = lines_of m.left.now in
    let whole = lines_spelled l.left.now in
    let rest = lines_spelled m.left.now in
    let spelled : l.left.now ≡ with_line_ends ts ++ m.left.now =
    sym whole.whole ∙ ap (λ j. with_line_ends j.lines ++ j.rest) p.cut ∙ ap (λ t. t ++ k.rest) (ends_append ts k.lines) ∙ append_assoc (with_line_ends ts) (with_line_ends k.lines) k.rest
    ∙ ap (λ t. with_line_ends ts ++ t) rest.whole in
    let long : length l.left.now ≡ length (with_line_ends ts) + length m.left.now = ap length spelled ∙ length-append (with_line_ends ts) m.left.now in
    let at : size ≡ length (with_line_ends ts) = omega arith in
    record {
      lines = ts;
      text = (λ i. take (at i) (spelled i)) ∙ take-append_seam (with_line_ends ts) m.left.now;
      are = front_lines ts k.lines (subst (λ j. IsTrue (are_lines j.lines)) p.cut whole.lines);
      many = p.many ∙ all;
      cut = p.cut;
      count = p.count ∙ ap (λ j. l.count + j) all;
      room = p.room;
    }

-- fewer are left
pub over_lines : (res : Result (Bor Text) DecodeError) (e d : DecodeError) (l m k : Lines) (n i : ℕ) → res ≡ Err d → d ≡ e → i < n → (HasRoom l → Passed l m i) → (HasRoom m → IsOver e m) → NextLines res l k n
over_lines res e d l m k n i was is less passed over =
    subst (λ s. NextLines s l k n) (sym was)
    (λ room.
    let p = passed room in
    let o = over p.room in
    let cut : lines_of l.left.now ≡ record { lines = p.lines; rest = m.left.now } =
    p.cut ∙ ap (λ j. record { lines = p.lines ++ j.lines; rest = j.rest }) o.cut ∙ ap (λ ts. record { lines = ts; rest = m.left.now }) (append-nil p.lines) in
    let many : length (lines_of l.left.now).lines ≡ i = ap (λ j. length j.lines) cut ∙ p.many in
    let count = p.count in
    let at : m.count ≡ lines_in l = omega arith in
    record { fewer = omega arith; error = is ∙ o.error ∙ ap (λ j. Line (suc j) kind.Ended) at })

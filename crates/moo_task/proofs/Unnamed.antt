-- What names nothing.
use Rattle.std.proofs.Common.{◌≡◌, negsuc, length, ap, sym, ◌∙◌}
use Rattle.std.proofs.lemmas.List.{nil_from_length}
use Rattle.spec_value.specs.Datum.{Text}
use Rattle.spec_world.specs.World.{Start}
use Rattle.moo_task.specs.Starts.{start_of}
use Rattle.moo_task.specs.declared.start.Held.TheVariants.{Unnamed}

pub unnamed : (s : Start) → length s.argstr ≡ 0 → s.dobj ≡ negsuc 0 → length s.dobjstr ≡ 0 → length s.prepstr ≡ 0 → s.iobj ≡ negsuc 0 → length s.iobjstr ≡ 0 → start_of (Unnamed s.argstr) ≡ s
unnamed s a d ds p i is =
    let argstr = nil_from_length s.argstr a in λ k. record {
      argstr = s.argstr;
      dobj = sym d k;
      dobjstr = (argstr ∙ sym (nil_from_length s.dobjstr ds)) k;
      prepstr = (argstr ∙ sym (nil_from_length s.prepstr p)) k;
      iobj = sym i k;
      iobjstr = (argstr ∙ sym (nil_from_length s.iobjstr is)) k;
    }

pub alike : (s t : Text) → s ≡ t → start_of (Unnamed s) ≡ start_of (Unnamed t)
alike s t e = ap (λ (x : Text). start_of (Unnamed x)) e

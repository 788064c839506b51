-- What begins with a name, or with none.
use Rattle.std.proofs.Common.{◌≡◌, ℕ, List, [], Option, Some, None, refl}
use Rattle.spec_value.specs.Datum.{Text, fold_case}
use Rattle.spec_program.specs.Tree.{Statement}
use Rattle.spec_program.specs.Tokens.{Placed}
use Rattle.spec_program.specs.Frames as f
use Rattle.spec_program.specs.Frames.{a_block, a_statement, some_arms_read, Frames}
use Rattle.spec_program.specs.ReadPrograms as by
use Rattle.spec_reader.specs.Next.{State, by_word, found, goes, taken_word}
use Rattle.spec_reader.specs.Ends.{head_begins, statement_ended}
use Rattle.spec_reader.specs.Begins.{arm_named, arms_begin, block_begins, fork_begins, leaving_begins, while_begins}
use Rattle.moo_token.specs.declared.fault.TokenFault.{TokenFault}
use Rattle.moo_token.specs.Tokens.{Ending, whole, faulty}
use Rattle.moo_token.specs.Views.{ending_of}
use Rattle.moo_token.specs.Meaning.{ending_meant}
use Rattle.reader_blocks.specs.Names.{name_taken}

by_name : (g : Option Text → List Placed → State) (w : Option (Text × ℕ)) (ts : List Placed)
    → by_word w (λ x line us. g (Some (fold_case x)) us) (g None) ts ≡ g (name_taken w) ts
by_name g None ts = refl
by_name g (Some w) ts = refl

pub while_by_name : (line : ℕ) (fs : Frames a_statement) (ts : List Placed)
    → while_begins line fs ts ≡ head_begins line (f.while_head (name_taken (taken_word ts).word)) fs (taken_word ts).left
while_by_name line fs ts = by_name (λ x us. head_begins line (f.while_head x) fs us) (taken_word ts).word (taken_word ts).left

pub fork_by_name : (line : ℕ) (fs : Frames a_statement) (ts : List Placed)
    → fork_begins line fs ts ≡ head_begins line (f.fork_head (name_taken (taken_word ts).word)) fs (taken_word ts).left
fork_by_name line fs ts = by_name (λ x us. head_begins line (f.fork_head x) fs us) (taken_word ts).word (taken_word ts).left

pub arm_by_name : (fs : Frames some_arms_read) (ts : List Placed)
    → arms_begin fs ts ≡ arm_named (name_taken (taken_word ts).word) fs (taken_word ts).left
arm_by_name fs ts = by_name (λ x us. arm_named x fs us) (taken_word ts).word (taken_word ts).left

pub leaving_by_name : (g : Option Text → Statement) (line : ℕ) (fs : Frames a_statement) (ts : List Placed)
    → leaving_begins g line fs ts
    ≡ statement_ended (by.stray line (name_taken (taken_word ts).word) (g (name_taken (taken_word ts).word))) fs (taken_word ts).left
leaving_by_name g line fs ts = by_name (λ x us. statement_ended (by.stray line x (g x)) fs us) (taken_word ts).word (taken_word ts).left

block_at_end : (fs : Frames a_block) (e : Ending) → block_begins fs (ending_meant e) ≡ goes (found fs by.no_statements) (ending_meant e)
block_at_end fs whole = refl
block_at_end fs (faulty k line) = refl

pub no_block : (fs : Frames a_block) (o : Option TokenFault) (ts : List Placed)
    → ts ≡ ending_meant (ending_of o) → block_begins fs ts ≡ goes (found fs by.no_statements) ts
no_block fs o ts h = rw h (block_at_end fs (ending_of o))

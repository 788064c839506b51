-- The names, the forks, the code and the handlers of a program's draft are those of the program.
use Rattle.std.proofs.Common.{◌≡◌, ℕ, ◌+◌, ◌<◌, List, [], ◌∷◌, ◌++◌, get_or, length, map, refl, ap, sym, ◌∙◌, arith, Bor}
use Rattle.spec_value.specs.Datum.{Text}
use Rattle.spec_program.specs.Tree.{Program, Statement}
use Rattle.moo_code.specs.Instruction as code
use Rattle.moo_code.specs.Layout.{size, whole_layout, code_of, handlers_of}
use Rattle.moo_code.specs.Names.{all_names, all_handled, starting_names, names_of}
use Rattle.std.specs.Prelude.{reverse, take}
use Rattle.moo_tree.specs.StatementView.{program_of}
use Rattle.moo_program.specs.Drafting.{Draught, item_of, state, over}
use Rattle.moo_program.specs.declared.moo_bytecode.draft.Draft.{Draft}
use Rattle.moo_program.specs.declared.moo_bytecode.draft.Item.{Item}
use Rattle.moo_program.specs.Drafted.{IsDraft}
use Rattle.moo_program.specs.Assembling.{opened, code_in, handlers_in, draft_of, whole_program}
use Rattle.moo_program.proofs.Assembled.{assembles_code, assembles_handlers}
use Rattle.moo_program.proofs.Drafted.{size_over}
use Rattle.moo_program.specs.Gathering.{draft_names, draft_handled, draft_bodies, forks_in}
use Rattle.moo_program.specs.Meaning.{meant, handler_meant}
use Rattle.moo_program.specs.Tables.{bodies_of}
use Rattle.moo_program.proofs.Lists.{item_last, map_last}
use Rattle.moo_program.specs.declared.instruction.Instruction.{Instruction}
use Rattle.moo_program.specs.declared.instruction.Handler.{Handler}
use Rattle.moo_program.proofs.Gathered.{code_names, handlers_names, code_forks}

names_are : (p : Program) → draft_handled (draft_names starting_names (draft_of p)) (draft_of p) ≡ names_of p
names_are p =
    let named : List Text = draft_names starting_names (draft_of p) in
    sym (handlers_names (draft_of p) (whole_program p ∷ []) 0 named)
    ∙ ap (λ hs. all_handled named hs) (assembles_handlers p)
    ∙ ap (λ ns. all_handled ns (handlers_of p)) (sym (code_names (draft_of p) (whole_program p ∷ []) 0 starting_names) ∙ ap (all_names starting_names) (assembles_code p))

forks_are : (p : Program) → draft_bodies (draft_of p) ≡ forks_in (code_of p)
forks_are p = sym (code_forks (draft_of p) (whole_program p ∷ []) 0) ∙ ap forks_in (assembles_code p)

pub is_draft : (p : Program) (d : Draft) (items : List Item) → state d ≡ over (whole_layout p) ([], 0) → items ≡ reverse d.items.items → IsDraft p (map item_of items) d.size
is_draft p d items e turned =
    let n : d.size ≡ size (whole_layout p) + 0 = ap (λ s. s.1) e ∙ size_over (whole_layout p) ([], 0) in
    record { items = ap (map item_of) turned ∙ ap (λ s. s.0) e; count = omega (arith, n) }

pub draft_lent : (p : Program) (items lent : List Item) (n : ℕ) → IsDraft p (map item_of items) n → lent ≡ items → IsDraft p (map item_of lent) n
draft_lent p items lent n d e = record { items = ap (map item_of) e ∙ d.items; count = d.count }

pub draft_named : (p : Program) (ds : List Draught) (n : ℕ) → IsDraft p ds n → draft_handled (draft_names starting_names ds) ds ≡ names_of p
draft_named p ds n d = ap (λ ds. draft_handled (draft_names starting_names ds) ds) d.items ∙ names_are p

pub draft_forks : (p : Program) (ds : List Draught) (n : ℕ) → IsDraft p ds n → draft_bodies ds ≡ forks_in (code_of p)
draft_forks p ds n d = ap draft_bodies d.items ∙ forks_are p

draft_code : (p : Program) (ds : List Draught) (n : ℕ) → IsDraft p ds n → code_in (opened 0 ds n ∷ []) 0 ds ≡ code_of p
draft_code p ds n d =
    ap (λ ds. code_in (opened 0 ds n ∷ []) 0 ds) d.items ∙ ap (λ n. code_in (opened 0 (draft_of p) n ∷ []) 0 (draft_of p)) d.count ∙ assembles_code p

draft_handlers : (p : Program) (ds : List Draught) (n : ℕ) → IsDraft p ds n → handlers_in (opened 0 ds n ∷ []) 0 ds ≡ handlers_of p
draft_handlers p ds n d =
    ap (λ ds. handlers_in (opened 0 ds n ∷ []) 0 ds) d.items ∙ ap (λ n. handlers_in (opened 0 (draft_of p) n ∷ []) 0 (draft_of p)) d.count ∙ assembles_handlers p

pub code_meant : (p : Program) (ds : List Draught) (n : ℕ) (names : List Text) (bodies : List Program) (is : List Instruction) → IsDraft p ds n → names ≡ names_of p
    → bodies ≡ forks_in (code_of p) → map (meant names bodies) is ≡ code_in (opened 0 ds n ∷ []) 0 ds → map (meant (names_of p) (forks_in (code_of p))) is ≡ code_of p
code_meant p ds n names bodies is d named forked e =
    ap (λ ns. map (meant ns (forks_in (code_of p))) is) (sym named) ∙ ap (λ bs. map (meant names bs) is) (sym forked) ∙ e ∙ draft_code p ds n d

pub handlers_meant : (p : Program) (ds : List Draught) (n : ℕ) (names : List Text) (hs : List Handler) → IsDraft p ds n → names ≡ names_of p
    → map (handler_meant names) hs ≡ handlers_in (opened 0 ds n ∷ []) 0 ds → map (handler_meant (names_of p)) hs ≡ handlers_of p
handlers_meant p ds n names hs d named e = ap (λ ns. map (handler_meant ns) hs) (sym named) ∙ e ∙ draft_handlers p ds n d

-- one body more is copied
pub copies_next : (bs : List (Bor (List Statement))) (i : ℕ) (b : Bor (List Statement)) (old new : List Program) (p : Program) → i < length bs → b ≡ get_or bs i b
    → p ≡ program_of b.now → new ≡ old ++ p ∷ [] → old ≡ bodies_of (take i bs) → new ≡ bodies_of (take (i + 1) bs)
copies_next bs i b old new p h is e put before =
    put ∙ ap (λ ps. ps ++ p ∷ []) before ∙ ap (λ p. bodies_of (take i bs) ++ p ∷ []) e
    ∙ sym (map_last (λ (b : Bor (List Statement)). program_of b.now) (take i bs) (take (i + 1) bs) b (item_last bs i b h is))

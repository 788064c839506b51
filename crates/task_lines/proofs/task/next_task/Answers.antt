use Rattle.std.proofs.Common.{◌≡◌, ◌++◌, ◌∷◌, [], length, map, subst, sym, ap, ◌∙◌, codes, refl, rules, w32, SFits, to_z, of_z}
use Rattle.std.proofs.lemmas.Int.{to_z-of_z}
use Rattle.spec_world.specs.Checkpoint.{fields, counted, object_text, each_entry}
use Rattle.moo_task.specs.Effects.{waiting_of}
use Rattle.moo_task.specs.Frames.{outers_of}
use Rattle.task_lines.specs.Entries.{outer_for}
use Rattle.task_lines.specs.Tasks.{is_forked, AllRead, OrderReads}
use Rattle.task_lines.proofs.Made.{task_made}
use Rattle.std.proofs.lemmas.Result.{err_from_is_err_and}
use Rattle.checkpoint_lines.proofs.Giving.{gives_passed}
use Rattle.spec_faults.specs.Forms.{player_form}
use Rattle.checkpoint_lines.specs.Told.{GoesOn, TellsFault}
use Rattle.checkpoint_lines.proofs.Telling.{goes_then, goes_behind, fault_then, fault_behind}
use Rattle.task_lines.specs.Awaiting.{behind_own}
use Rattle.task_lines.proofs.Telling.{tells_passed}
use Rattle.spec_faults.specs.Awaited as awaited
use Rattle.task_lines.proofs.task.next_task.Goals as goal

pub returns-in_err-id-clause-reads : goal.returns-in_err-id-clause-reads
returns-in_err-id-clause-reads c = λ i t rest range h l.
    let memory = c.in_err-id.ensures.reads i t.waiting (fields (codes "player" ∷ object_text t.player ∷ []) ∷ counted (codes "entries") (length t.entries) ∷ (each_entry t.entries ++ rest)) range h.least h.most h.waiting l in
    let passed = err_from_is_err_and c.from_residual.result c.from_residual.ensures.1 in
    gives_passed c.from_residual.result passed.0 _ passed.1 (cc (passed.2, memory))

pub returns-in_err-player-clause-reads : goal.returns-in_err-player-clause-reads
returns-in_err-player-clause-reads c = λ i t rest range h l.
    let id = c.in_ok-id.ensures.reads i t.waiting (fields (codes "player" ∷ object_text t.player ∷ []) ∷ counted (codes "entries") (length t.entries) ∷ (each_entry t.entries ++ rest)) range h.least h.most h.waiting l in
    let memory = c.in_err-player.ensures.reads t.player (counted (codes "entries") (length t.entries) ∷ (each_entry t.entries ++ rest)) refl h.player id.1 in
    let passed = err_from_is_err_and c.from_residual-in_err-player.result c.from_residual-in_err-player.ensures.1 in
    gives_passed c.from_residual-in_err-player.result passed.0 _ passed.1 (cc (passed.2, memory))

pub returns-in_err-verbs-clause-reads : goal.returns-in_err-verbs-clause-reads
returns-in_err-verbs-clause-reads c = λ i t rest range h l.
    let id = c.in_ok-id.ensures.reads i t.waiting (fields (codes "player" ∷ object_text t.player ∷ []) ∷ counted (codes "entries") (length t.entries) ∷ (each_entry t.entries ++ rest)) range h.least h.most h.waiting l in
    let player = c.in_ok-player.ensures.reads t.player (counted (codes "entries") (length t.entries) ∷ (each_entry t.entries ++ rest)) refl h.player id.1 in
    let forks = c.is_fork.ensures ∙ ap is_forked id.0.1 in
    let entries = subst (λ b. AllRead b t.entries) (sym forks) h.entries in
    let order = subst (λ b. OrderReads b t.entries) (sym forks) h.order in
    let memory = c.in_err-verbs.ensures.reads t.entries rest entries order player.1 in
    let passed = err_from_is_err_and c.from_residual-in_err-verbs.result c.from_residual-in_err-verbs.ensures.1 in
    gives_passed c.from_residual-in_err-verbs.result passed.0 _ passed.1 (cc (passed.2, memory))

pub returns-clause-reads : goal.returns-clause-reads
returns-clause-reads c = λ i t rest range h l.
    let id = c.in_ok-id.ensures.reads i t.waiting (fields (codes "player" ∷ object_text t.player ∷ []) ∷ counted (codes "entries") (length t.entries) ∷ (each_entry t.entries ++ rest)) range h.least h.most h.waiting l in
    let player = c.in_ok-player.ensures.reads t.player (counted (codes "entries") (length t.entries) ∷ (each_entry t.entries ++ rest)) refl h.player id.1 in
    let forks = c.is_fork.ensures ∙ ap is_forked id.0.1 in
    let entries = subst (λ b. AllRead b t.entries) (sym forks) h.entries in
    let order = subst (λ b. OrderReads b t.entries) (sym forks) h.order in
    let verbs = c.in_ok-verbs.ensures.reads t.entries rest entries order player.1 in
    let id_fits : SFits w32 c.in_ok-id.id = search rules in
    let id_is : to_z w32 (of_z w32 c.in_ok-id.id) ≡ i = to_z-of_z w32 c.in_ok-id.id id_fits ∙ id.0.0 in
    let player_fits : SFits w32 c.in_ok-player.player = search rules in
    let player_is : to_z w32 (of_z w32 c.in_ok-player.player) ≡ t.player = to_z-of_z w32 c.in_ok-player.player player_fits ∙ player.0 in
    let outers = verbs.0 ∙ ap (λ b. map (outer_for b) t.entries) forks in
    let made = task_made i t c.in_ok-task.task (to_z w32 (of_z w32 c.in_ok-player.player)) (waiting_of c.in_ok-id.waiting) (outers_of c.in_ok-verbs.verbs.items) h player_is id.0.1 outers c.in_ok-task.ensures.tells c.in_ok-task.ensures.finds in
    ((id_is, made), verbs.1)

pub returns-in_err-id-clause-tells : goal.returns-in_err-id-clause-tells
returns-in_err-id-clause-tells c =
    let passed = err_from_is_err_and c.from_residual.result c.from_residual.ensures.1 in
    tells_passed c.from_residual.result passed.0 c.in_err-id.field-0.0 c.args.lines.now _ (awaited.task ∷ []) (λ _. []) passed.1 (cc (passed.2))
    (c.in_err-id.ensures.tells)

pub returns-in_err-player-clause-tells : goal.returns-in_err-player-clause-tells
returns-in_err-player-clause-tells c =
    let passed = err_from_is_err_and c.from_residual-in_err-player.result c.from_residual-in_err-player.ensures.1 in
    tells_passed c.from_residual-in_err-player.result passed.0 c.in_err-player.field-0.0 c.args.lines.now _ (awaited.task ∷ []) (λ _. []) passed.1 (cc (passed.2))
    (λ room. let id = c.in_ok-id.ensures.tells room in
    fault_then c.in_err-player.field-0.0 c.args.lines.now c.next_waiting.new.lines (awaited.task ∷ []) (behind_own (is_forked (waiting_of c.in_ok-id.waiting))) id (fault_behind c.in_err-player.field-0.0 c.next_waiting.new.lines (awaited.one player_form ∷ []) (awaited.entries (is_forked (waiting_of c.in_ok-id.waiting)) ∷ []) (c.in_err-player.ensures.tells id.room)))

pub returns-in_err-verbs-clause-tells : goal.returns-in_err-verbs-clause-tells
returns-in_err-verbs-clause-tells c =
    let passed = err_from_is_err_and c.from_residual-in_err-verbs.result c.from_residual-in_err-verbs.ensures.1 in
    tells_passed c.from_residual-in_err-verbs.result passed.0 c.in_err-verbs.field-0.0 c.args.lines.now _ (awaited.task ∷ []) (λ _. []) passed.1 (cc (passed.2))
    (λ room. let id = c.in_ok-id.ensures.tells room in
    let player = c.in_ok-player.ensures.tells id.room in
    let both = goes_then c.args.lines.now c.next_waiting.new.lines c.next_object.new.self (awaited.task ∷ []) (behind_own (is_forked (waiting_of c.in_ok-id.waiting))) (awaited.entries (is_forked (waiting_of c.in_ok-id.waiting)) ∷ []) id (goes_behind c.next_waiting.new.lines c.next_object.new.self (awaited.one player_form ∷ []) [] (awaited.entries (is_forked (waiting_of c.in_ok-id.waiting)) ∷ []) player) in
    fault_then c.in_err-verbs.field-0.0 c.args.lines.now c.next_object.new.self (awaited.task ∷ []) (awaited.entries (is_forked (waiting_of c.in_ok-id.waiting)) ∷ []) both (subst (λ f. TellsFault c.in_err-verbs.field-0.0 c.next_object.new.self (awaited.entries f ∷ [])) c.is_fork.ensures (c.in_err-verbs.ensures.tells both.room)))

pub returns-clause-tells : goal.returns-clause-tells
returns-clause-tells c = λ room.
    let id = c.in_ok-id.ensures.tells room in
    let player = c.in_ok-player.ensures.tells id.room in
    let both = goes_then c.args.lines.now c.next_waiting.new.lines c.next_object.new.self (awaited.task ∷ []) (behind_own (is_forked (waiting_of c.in_ok-id.waiting))) (awaited.entries (is_forked (waiting_of c.in_ok-id.waiting)) ∷ []) id (goes_behind c.next_waiting.new.lines c.next_object.new.self (awaited.one player_form ∷ []) [] (awaited.entries (is_forked (waiting_of c.in_ok-id.waiting)) ∷ []) player) in
    goes_then c.args.lines.now c.next_object.new.self c.next_entries.new.lines (awaited.task ∷ []) (awaited.entries (is_forked (waiting_of c.in_ok-id.waiting)) ∷ []) [] both (subst (λ f. GoesOn c.next_object.new.self c.next_entries.new.lines (awaited.entries f ∷ []) []) c.is_fork.ensures (c.in_ok-verbs.ensures.tells both.room))

use Rattle.std.proofs.Common.{◌≡◌, ◌∙◌, rules, w32, to_z, of_z}
use Rattle.moo_task.specs.declared.effect.NativeEffect.TheVariants.{Answers}
use Rattle.builtins_view.specs.Requests.{acting_of, said_of}
use Rattle.builtins_view.specs.declared.builtin_requests.acting.Acting.TheVariants.{SetPlayerFlag, Notify, Read, Resume, ResumeWith, KillTask, SetTaskPerms, BootPlayer, DumpDatabase}
use Rattle.builtins.proofs.Acts.{goes_acts, tells_acts, shows_acts, player_acts, known_so}
use Rattle.builtins.proofs.builtin_deeds.acting.act.Goals as goal

pub returns-in_ok-set_player_flag-in-SetPlayerFlag-clause-does : goal.returns-in_ok-set_player_flag-in-SetPlayerFlag-clause-does
returns-in_ok-set_player_flag-in-SetPlayerFlag-clause-does g c =
    let object : to_z w32 (of_z w32 c.in-SetPlayerFlag.object) ≡ c.in-SetPlayerFlag.object = search rules in
    let who : to_z w32 (of_z w32 c.programmer-who.result) ≡ c.programmer-who.result = search rules in
    known_so g.V.View.holds g.V.View.now c.args.view.now c.set_player_flag.new.view c.args.task.now (λ z. said_of (acting_of z)) c.args.deeds.now c.set_player_flag.new.deeds (Answers c.in_ok-set_player_flag-in-SetPlayerFlag.field-0) c.args.acting (SetPlayerFlag c.in-SetPlayerFlag.object c.in-SetPlayerFlag.flag) c.in-SetPlayerFlag.is
    (goes_acts g.V.View.holds g.V.View.now c.args.view.now c.set_player_flag.new.view c.args.task.now (said_of (acting_of (SetPlayerFlag c.in-SetPlayerFlag.object c.in-SetPlayerFlag.flag))) c.args.deeds.now c.set_player_flag.new.deeds _ (Answers c.in_ok-set_player_flag-in-SetPlayerFlag.field-0) (who ∙ c.programmer-who.ensures) (rw object at c.in_ok-set_player_flag-in-SetPlayerFlag.ensures.left))

pub returns-in_ok-notify-in-Notify-clause-does : goal.returns-in_ok-notify-in-Notify-clause-does
returns-in_ok-notify-in-Notify-clause-does g c =
    let object : to_z w32 (of_z w32 c.in-Notify.object) ≡ c.in-Notify.object = search rules in
    let who : to_z w32 (of_z w32 c.programmer-who.result) ≡ c.programmer-who.result = search rules in
    known_so g.V.View.holds g.V.View.now c.args.view.now c.notify.new.view c.args.task.now (λ z. said_of (acting_of z)) c.args.deeds.now c.notify.new.deeds (Answers c.in_ok-notify-in-Notify.field-0) c.args.acting (Notify c.in-Notify.object c.in-Notify.line) c.in-Notify.is
    (tells_acts g.V.View.holds g.V.View.now c.args.view.now c.notify.new.view c.args.task.now (said_of (acting_of (Notify c.in-Notify.object c.in-Notify.line))) c.args.deeds.now c.notify.new.deeds _ (Answers c.in_ok-notify-in-Notify.field-0) (who ∙ c.programmer-who.ensures) (rw object at c.in_ok-notify-in-Notify.ensures.left))

pub returns-in_ok-read-in-Read-clause-does : goal.returns-in_ok-read-in-Read-clause-does
returns-in_ok-read-in-Read-clause-does g c =
    let player : to_z w32 (of_z w32 c.args.task.now.player) ≡ c.args.task.now.player = search rules in
    let who : to_z w32 (of_z w32 c.programmer-who.result) ≡ c.programmer-who.result = search rules in
    known_so g.V.View.holds g.V.View.now c.args.view.now c.read.new.view c.args.task.now (λ z. said_of (acting_of z)) c.args.deeds.now c.read.new.deeds c.in_ok-read-in-Read.field-0 c.args.acting Read c.in-Read.is
    (player_acts g.V.View.holds g.V.View.now c.args.view.now c.read.new.view c.args.task.now (said_of (acting_of Read)) c.args.deeds.now c.read.new.deeds _ _ c.in_ok-read-in-Read.field-0 player (who ∙ c.programmer-who.ensures) c.in_ok-read-in-Read.ensures.left)

pub returns-in_ok-resume-in-Resume-clause-does : goal.returns-in_ok-resume-in-Resume-clause-does
returns-in_ok-resume-in-Resume-clause-does g c =
    let id : to_z w32 (of_z w32 c.in-Resume.id) ≡ c.in-Resume.id = search rules in
    let who : to_z w32 (of_z w32 c.programmer-who.result) ≡ c.programmer-who.result = search rules in
    known_so g.V.View.holds g.V.View.now c.args.view.now c.resume.new.view c.args.task.now (λ z. said_of (acting_of z)) c.args.deeds.now c.args.deeds.now (Answers c.in_ok-resume-in-Resume.field-0) c.args.acting (Resume c.in-Resume.id) c.in-Resume.is
    (goes_acts g.V.View.holds g.V.View.now c.args.view.now c.resume.new.view c.args.task.now (said_of (acting_of (Resume c.in-Resume.id))) c.args.deeds.now c.args.deeds.now _ (Answers c.in_ok-resume-in-Resume.field-0) (who ∙ c.programmer-who.ensures) (rw id at c.in_ok-resume-in-Resume.ensures.left))

pub returns-in_ok-resume_with-in-ResumeWith-clause-does : goal.returns-in_ok-resume_with-in-ResumeWith-clause-does
returns-in_ok-resume_with-in-ResumeWith-clause-does g c =
    let id : to_z w32 (of_z w32 c.in-ResumeWith.id) ≡ c.in-ResumeWith.id = search rules in
    let who : to_z w32 (of_z w32 c.programmer-who.result) ≡ c.programmer-who.result = search rules in
    known_so g.V.View.holds g.V.View.now c.args.view.now c.resume_with.new.view c.args.task.now (λ z. said_of (acting_of z)) c.args.deeds.now c.args.deeds.now (Answers c.in_ok-resume_with-in-ResumeWith.field-0) c.args.acting (ResumeWith c.in-ResumeWith.id c.in-ResumeWith.value) c.in-ResumeWith.is
    (goes_acts g.V.View.holds g.V.View.now c.args.view.now c.resume_with.new.view c.args.task.now (said_of (acting_of (ResumeWith c.in-ResumeWith.id c.in-ResumeWith.value))) c.args.deeds.now c.args.deeds.now _ (Answers c.in_ok-resume_with-in-ResumeWith.field-0) (who ∙ c.programmer-who.ensures) (rw id at c.in_ok-resume_with-in-ResumeWith.ensures.left))

pub returns-in_ok-kill_task-in-KillTask-clause-does : goal.returns-in_ok-kill_task-in-KillTask-clause-does
returns-in_ok-kill_task-in-KillTask-clause-does g c =
    let id : to_z w32 (of_z w32 c.in-KillTask.id) ≡ c.in-KillTask.id = search rules in
    let who : to_z w32 (of_z w32 c.programmer-who.result) ≡ c.programmer-who.result = search rules in
    known_so g.V.View.holds g.V.View.now c.args.view.now c.kill_task.new.view c.args.task.now (λ z. said_of (acting_of z)) c.args.deeds.now c.args.deeds.now c.in_ok-kill_task-in-KillTask.field-0 c.args.acting (KillTask c.in-KillTask.id) c.in-KillTask.is
    (goes_acts g.V.View.holds g.V.View.now c.args.view.now c.kill_task.new.view c.args.task.now (said_of (acting_of (KillTask c.in-KillTask.id))) c.args.deeds.now c.args.deeds.now _ c.in_ok-kill_task-in-KillTask.field-0 (who ∙ c.programmer-who.ensures) (rw id at c.in_ok-kill_task-in-KillTask.ensures.left))

pub returns-in_ok-set_task_perms-in-SetTaskPerms-clause-does : goal.returns-in_ok-set_task_perms-in-SetTaskPerms-clause-does
returns-in_ok-set_task_perms-in-SetTaskPerms-clause-does g c =
    let object : to_z w32 (of_z w32 c.in-SetTaskPerms.object) ≡ c.in-SetTaskPerms.object = search rules in
    let who : to_z w32 (of_z w32 c.programmer-who.result) ≡ c.programmer-who.result = search rules in
    known_so g.V.View.holds g.V.View.now c.args.view.now c.set_task_perms.new.view c.args.task.now (λ z. said_of (acting_of z)) c.args.deeds.now c.args.deeds.now c.in_ok-set_task_perms-in-SetTaskPerms.field-0 c.args.acting (SetTaskPerms c.in-SetTaskPerms.object) c.in-SetTaskPerms.is
    (shows_acts g.V.View.holds g.V.View.now c.args.view.now c.set_task_perms.new.view c.args.task.now (said_of (acting_of (SetTaskPerms c.in-SetTaskPerms.object))) c.args.deeds.now _ c.in_ok-set_task_perms-in-SetTaskPerms.field-0 (who ∙ c.programmer-who.ensures) (rw object at c.in_ok-set_task_perms-in-SetTaskPerms.ensures.left))

pub returns-in_ok-boot_player-in-BootPlayer-clause-does : goal.returns-in_ok-boot_player-in-BootPlayer-clause-does
returns-in_ok-boot_player-in-BootPlayer-clause-does g c =
    let object : to_z w32 (of_z w32 c.in-BootPlayer.object) ≡ c.in-BootPlayer.object = search rules in
    let who : to_z w32 (of_z w32 c.programmer-who.result) ≡ c.programmer-who.result = search rules in
    known_so g.V.View.holds g.V.View.now c.args.view.now c.boot_player.new.view c.args.task.now (λ z. said_of (acting_of z)) c.args.deeds.now c.boot_player.new.deeds (Answers c.in_ok-boot_player-in-BootPlayer.field-0) c.args.acting (BootPlayer c.in-BootPlayer.object) c.in-BootPlayer.is
    (goes_acts g.V.View.holds g.V.View.now c.args.view.now c.boot_player.new.view c.args.task.now (said_of (acting_of (BootPlayer c.in-BootPlayer.object))) c.args.deeds.now c.boot_player.new.deeds _ (Answers c.in_ok-boot_player-in-BootPlayer.field-0) (who ∙ c.programmer-who.ensures) (rw object at c.in_ok-boot_player-in-BootPlayer.ensures.left))

pub returns-in_ok-dump_database-in-DumpDatabase-clause-does : goal.returns-in_ok-dump_database-in-DumpDatabase-clause-does
returns-in_ok-dump_database-in-DumpDatabase-clause-does g c =
    let who : to_z w32 (of_z w32 c.programmer-who.result) ≡ c.programmer-who.result = search rules in
    known_so g.V.View.holds g.V.View.now c.args.view.now c.dump_database.new.view c.args.task.now (λ z. said_of (acting_of z)) c.args.deeds.now c.dump_database.new.deeds (Answers c.in_ok-dump_database-in-DumpDatabase.field-0) c.args.acting DumpDatabase c.in-DumpDatabase.is
    (tells_acts g.V.View.holds g.V.View.now c.args.view.now c.dump_database.new.view c.args.task.now (said_of (acting_of DumpDatabase)) c.args.deeds.now c.dump_database.new.deeds _ (Answers c.in_ok-dump_database-in-DumpDatabase.field-0) (who ∙ c.programmer-who.ensures) c.in_ok-dump_database-in-DumpDatabase.ensures.left)

use Rattle.std.proofs.Common.{◌≡◌, ◌∙◌, true, false, ap, sym, to_z, of_z, w32, rules, if◌then◌else◌}
use Rattle.std.specs.Ordering.{int_eq}
use Rattle.std.proofs.lemmas.Int.{to_z-of_z}
use Rattle.spec_value.specs.Datum.{Text}
use Rattle.spec_world.specs.Links.{connection_object}
use Rattle.spec_moo.specs.Steps.Events.{login, player_line, words_value, foreground_ticks}
use Rattle.moo_task.specs.Deeds.{scene_of}
use Rattle.rules.proofs.Tellings.{if_ok_as}
use Rattle.steps.proofs.step_events.lines.line_for.Goals as goal

pub login-requires-clause-list : goal.login-requires-clause-list
login-requires-clause-list g c = (words_value c.args.text.now, c.in_ok-arguments.ensures)

pub returns-then-nobodys-clause-played : goal.returns-then-nobodys-clause-played
returns-then-nobodys-clause-played g c =
    let t = c.args.text.now in
    let connection = to_z-of_z w32 c.args.connection c.ranges.connection in
    let person : to_z w32 (of_z w32 c.link.inside.person) ≡ c.args.link.now.person = search rules in
    let nobody : int_eq c.args.link.now.person (connection_object c.args.connection) ≡ true = sym (rw (person, connection) at c.is_nobodys-nobodys.ensures) ∙ c.if-nobodys.true in
    let argstr : c.in_ok-argstr.argstr ≡ t = search rules in
    if_ok_as _ _
    (λ o played w h.
    let v = g.V.View.now c.args.view.now w in
    let r = played (words_value t) c.in_ok-arguments.ensures w h in (
      r.0,
      ap (λ b. if b then login (scene_of c.args.deeds.now v foreground_ticks) c.args.connection t (words_value t) else player_line (scene_of c.args.deeds.now v foreground_ticks) c.args.connection c.args.link.now.person t) nobody
          ∙ ap (λ (x : Text). login (scene_of c.args.deeds.now v foreground_ticks) c.args.connection x (words_value t)) (sym argstr) ∙ r.1,
    ))
    c.login.result (rw connection at c.login.ensures.played)

pub returns-clause-played : goal.returns-clause-played
returns-clause-played g c =
    let t = c.args.text.now in
    let connection = to_z-of_z w32 c.args.connection c.ranges.connection in
    let person : to_z w32 (of_z w32 c.link.inside.person) ≡ c.args.link.now.person = search rules in
    let somebody : int_eq c.args.link.now.person (connection_object c.args.connection) ≡ false = sym (rw (person, connection) at c.is_nobodys-nobodys.ensures) ∙ c.if-nobodys.false in
    if_ok_as _ _
    (λ o played w h.
    let v = g.V.View.now c.args.view.now w in
    let r = played w h in (
      r.0,
      ap (λ b. if b then login (scene_of c.args.deeds.now v foreground_ticks) c.args.connection t (words_value t) else player_line (scene_of c.args.deeds.now v foreground_ticks) c.args.connection c.args.link.now.person t) somebody ∙ r.1,
    ))
    c.player_line.result (rw connection at c.player_line.ensures.played)

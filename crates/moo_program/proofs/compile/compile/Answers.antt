use Rattle.std.proofs.Common.{map, length, ap, sym, ◌≡◌, ◌∙◌}
use Rattle.std.specs.List.{list_all}
use Rattle.moo_code.specs.Names.{names_of}
use Rattle.moo_program.specs.Drafting.{item_of}
use Rattle.moo_program.specs.Assembling.{draft_of}
use Rattle.moo_program.specs.Names.{known}
use Rattle.moo_program.specs.Outline.{step_of}
use Rattle.moo_program.specs.Tables.{bodies_of}
use Rattle.moo_program.specs.Within.{slots_in, handler_slots_in}
use Rattle.moo_program.proofs.Whole.{draft_lent, draft_named, draft_forks, code_meant, handlers_meant}
use Rattle.moo_program.proofs.Steady.{is_steady}
use Rattle.moo_program.proofs.compile.compile.Goals as goal

pub assemble-requires : goal.assemble-requires
assemble-requires o c =
    let items = c.as_slice-items.result.now in
    let n = c.in_ok-draft.draft.size in
    is_steady c.args.tree.now (map item_of items) n
    (draft_lent c.args.tree.now c.in_ok-draft.draft.items.items items n c.in_ok-draft.ensures c.as_slice-items.ensures.value)

pub returns : goal.returns
returns o c =
    let p = c.args.tree.now in
    let items = c.as_slice-items.result.now in
    let n = c.in_ok-draft.draft.size in
    let d = draft_lent p c.in_ok-draft.draft.items.items items n c.in_ok-draft.ensures c.as_slice-items.ensures.value in
    let t = c.in_ok-tables.tables in
    let named = c.in_ok-tables.ensures.names ∙ draft_named p (map item_of items) n d in
    let forked = c.in_ok-tables.ensures.bodies ∙ draft_forks p (map item_of items) n d in
    let a = c.in_ok-assembled.assembled in
    let own : known c.as_slice-own.result.now ≡ names_of p = ap known (c.as_slice-own.ensures.value ∙ c.into_list-names.ensures) ∙ named in
    record {
      code = record {
        names = ap known c.into_list-names.ensures ∙ named;
        code = code_meant p (map item_of items) n (known t.names) (bodies_of t.bodies.items) a.code.items d named forked c.in_ok-assembled.ensures.code;
        handlers = handlers_meant p (map item_of items) n (known t.names) a.handlers.items d named c.in_ok-assembled.ensures.handlers;
        slots = sym (ap (λ ns. list_all (slots_in (length ns)) a.code.items) named) ∙ c.in_ok-assembled.ensures.within;
        handled = sym (ap (λ ns. list_all (handler_slots_in (length ns)) a.handlers.items) own) ∙ c.in_ok-check_slots.ensures;
        outline = c.in_ok-outline.ensures ∙ ap (map step_of) d.items;
      };
      bodies = c.in_ok-bodies.ensures ∙ ap bodies_of c.as_slice-forked.ensures.value ∙ forked;
    }

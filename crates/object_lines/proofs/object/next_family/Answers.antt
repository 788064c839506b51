use Rattle.std.proofs.Common.{[], ◌∷◌, refl, codes, ◌++◌}
use Rattle.spec_world.specs.Checkpoint.{fields, object_list, text_list, list_literal, flags_text}
use Rattle.object_lines.proofs.ObjectParts.{family_header, family_children, family_contents, family_defines}
use Rattle.std.proofs.lemmas.Result.{err_from_is_err_and}
use Rattle.checkpoint_lines.proofs.Giving.{gives_passed}
use Rattle.checkpoint_lines.proofs.Going.{passed_on, first_fails, later_fails, then_goes}
use Rattle.object_lines.proofs.Families.{children_line, contents_line, flags_line, defines_line}
use Rattle.object_lines.specs.ObjectAwaited.{naming_awaited, family_awaited}
use Rattle.object_lines.proofs.object.next_family.Goals as goal

pub returns-in_err-naming : goal.returns-in_err-naming
returns-in_err-naming c = record {
  reads = λ x rest h l.
      let memory = c.in_err-naming.ensures.reads x.header (fields (codes "children" ∷ list_literal (object_list x.children) ∷ []) ∷ fields (codes "contents" ∷ list_literal (object_list x.contents) ∷ []) ∷ fields (codes "flags" ∷ flags_text x ∷ []) ∷ fields (codes "defines" ∷ list_literal (text_list x.defines) ∷ []) ∷ rest) (family_header x h) l in
      let passed = err_from_is_err_and c.from_residual.result c.from_residual.ensures.1 in
      gives_passed c.from_residual.result passed.0 _ passed.1 (cc (passed.2, memory));
  tells = let passed = err_from_is_err_and c.from_residual.result c.from_residual.ensures.1 in passed_on c.from_residual.result passed.0 c.in_err-naming.field-0.0 c.args.lines.now _ family_awaited (λ _. []) passed.1 passed.2 (first_fails c.in_err-naming.field-0.0 c.args.lines.now (naming_awaited) ((children_line ∷ []) ++ (contents_line ∷ []) ++ (flags_line ∷ []) ++ (defines_line ∷ [])) c.in_err-naming.ensures.tells);
}

pub returns-in_err-children : goal.returns-in_err-children
returns-in_err-children c = record {
  reads = λ x rest h l.
      let naming = c.in_ok-naming.ensures.reads x.header (fields (codes "children" ∷ list_literal (object_list x.children) ∷ []) ∷ fields (codes "contents" ∷ list_literal (object_list x.contents) ∷ []) ∷ fields (codes "flags" ∷ flags_text x ∷ []) ∷ fields (codes "defines" ∷ list_literal (text_list x.defines) ∷ []) ∷ rest) (family_header x h) l in
      let memory = c.in_err-children.ensures.reads x.children (fields (codes "contents" ∷ list_literal (object_list x.contents) ∷ []) ∷ fields (codes "flags" ∷ flags_text x ∷ []) ∷ fields (codes "defines" ∷ list_literal (text_list x.defines) ∷ []) ∷ rest) refl (family_children x h) naming.1 in
      let passed = err_from_is_err_and c.from_residual-in_err-children.result c.from_residual-in_err-children.ensures.1 in
      gives_passed c.from_residual-in_err-children.result passed.0 _ passed.1 (cc (passed.2, memory));
  tells = let so_1 = c.in_ok-naming.ensures.tells in let passed = err_from_is_err_and c.from_residual-in_err-children.result c.from_residual-in_err-children.ensures.1 in passed_on c.from_residual-in_err-children.result passed.0 c.in_err-children.field-0.0 c.args.lines.now _ family_awaited (λ _. []) passed.1 passed.2 (later_fails c.in_err-children.field-0.0 (naming_awaited) ((children_line ∷ [])) ((contents_line ∷ []) ++ (flags_line ∷ []) ++ (defines_line ∷ [])) so_1 c.in_err-children.ensures.tells);
}

pub returns-in_err-contents : goal.returns-in_err-contents
returns-in_err-contents c = record {
  reads = λ x rest h l.
      let naming = c.in_ok-naming.ensures.reads x.header (fields (codes "children" ∷ list_literal (object_list x.children) ∷ []) ∷ fields (codes "contents" ∷ list_literal (object_list x.contents) ∷ []) ∷ fields (codes "flags" ∷ flags_text x ∷ []) ∷ fields (codes "defines" ∷ list_literal (text_list x.defines) ∷ []) ∷ rest) (family_header x h) l in
      let children = c.in_ok-children.ensures.reads x.children (fields (codes "contents" ∷ list_literal (object_list x.contents) ∷ []) ∷ fields (codes "flags" ∷ flags_text x ∷ []) ∷ fields (codes "defines" ∷ list_literal (text_list x.defines) ∷ []) ∷ rest) refl (family_children x h) naming.1 in
      let memory = c.in_err-contents.ensures.reads x.contents (fields (codes "flags" ∷ flags_text x ∷ []) ∷ fields (codes "defines" ∷ list_literal (text_list x.defines) ∷ []) ∷ rest) refl (family_contents x h) children.1 in
      let passed = err_from_is_err_and c.from_residual-in_err-contents.result c.from_residual-in_err-contents.ensures.1 in
      gives_passed c.from_residual-in_err-contents.result passed.0 _ passed.1 (cc (passed.2, memory));
  tells = let so_1 = c.in_ok-naming.ensures.tells in let so_2 = then_goes (naming_awaited) [] ((children_line ∷ [])) [] so_1 c.in_ok-children.ensures.tells in let passed = err_from_is_err_and c.from_residual-in_err-contents.result c.from_residual-in_err-contents.ensures.1 in passed_on c.from_residual-in_err-contents.result passed.0 c.in_err-contents.field-0.0 c.args.lines.now _ family_awaited (λ _. []) passed.1 passed.2 (later_fails c.in_err-contents.field-0.0 (naming_awaited ++ (children_line ∷ [])) ((contents_line ∷ [])) ((flags_line ∷ []) ++ (defines_line ∷ [])) so_2 c.in_err-contents.ensures.tells);
}

pub returns-in_err-flags : goal.returns-in_err-flags
returns-in_err-flags c = record {
  reads = λ x rest h l.
      let naming = c.in_ok-naming.ensures.reads x.header (fields (codes "children" ∷ list_literal (object_list x.children) ∷ []) ∷ fields (codes "contents" ∷ list_literal (object_list x.contents) ∷ []) ∷ fields (codes "flags" ∷ flags_text x ∷ []) ∷ fields (codes "defines" ∷ list_literal (text_list x.defines) ∷ []) ∷ rest) (family_header x h) l in
      let children = c.in_ok-children.ensures.reads x.children (fields (codes "contents" ∷ list_literal (object_list x.contents) ∷ []) ∷ fields (codes "flags" ∷ flags_text x ∷ []) ∷ fields (codes "defines" ∷ list_literal (text_list x.defines) ∷ []) ∷ rest) refl (family_children x h) naming.1 in
      let contents = c.in_ok-contents.ensures.reads x.contents (fields (codes "flags" ∷ flags_text x ∷ []) ∷ fields (codes "defines" ∷ list_literal (text_list x.defines) ∷ []) ∷ rest) refl (family_contents x h) children.1 in
      let memory = c.in_err-flags.ensures.reads x (fields (codes "defines" ∷ list_literal (text_list x.defines) ∷ []) ∷ rest) contents.1 in
      let passed = err_from_is_err_and c.from_residual-in_err-flags.result c.from_residual-in_err-flags.ensures.1 in
      gives_passed c.from_residual-in_err-flags.result passed.0 _ passed.1 (cc (passed.2, memory));
  tells = let so_1 = c.in_ok-naming.ensures.tells in let so_2 = then_goes (naming_awaited) [] ((children_line ∷ [])) [] so_1 c.in_ok-children.ensures.tells in let so_3 = then_goes (naming_awaited ++ (children_line ∷ [])) [] ((contents_line ∷ [])) [] so_2 c.in_ok-contents.ensures.tells in let passed = err_from_is_err_and c.from_residual-in_err-flags.result c.from_residual-in_err-flags.ensures.1 in passed_on c.from_residual-in_err-flags.result passed.0 c.in_err-flags.field-0.0 c.args.lines.now _ family_awaited (λ _. []) passed.1 passed.2 (later_fails c.in_err-flags.field-0.0 (naming_awaited ++ (children_line ∷ []) ++ (contents_line ∷ [])) ((flags_line ∷ [])) ((defines_line ∷ [])) so_3 c.in_err-flags.ensures.tells);
}

pub returns-in_err-defines : goal.returns-in_err-defines
returns-in_err-defines c = record {
  reads = λ x rest h l.
      let naming = c.in_ok-naming.ensures.reads x.header (fields (codes "children" ∷ list_literal (object_list x.children) ∷ []) ∷ fields (codes "contents" ∷ list_literal (object_list x.contents) ∷ []) ∷ fields (codes "flags" ∷ flags_text x ∷ []) ∷ fields (codes "defines" ∷ list_literal (text_list x.defines) ∷ []) ∷ rest) (family_header x h) l in
      let children = c.in_ok-children.ensures.reads x.children (fields (codes "contents" ∷ list_literal (object_list x.contents) ∷ []) ∷ fields (codes "flags" ∷ flags_text x ∷ []) ∷ fields (codes "defines" ∷ list_literal (text_list x.defines) ∷ []) ∷ rest) refl (family_children x h) naming.1 in
      let contents = c.in_ok-contents.ensures.reads x.contents (fields (codes "flags" ∷ flags_text x ∷ []) ∷ fields (codes "defines" ∷ list_literal (text_list x.defines) ∷ []) ∷ rest) refl (family_contents x h) children.1 in
      let flags = c.in_ok-flags.ensures.reads x (fields (codes "defines" ∷ list_literal (text_list x.defines) ∷ []) ∷ rest) contents.1 in
      let memory = c.in_err-defines.ensures.reads x.defines rest refl (family_defines x h) flags.1 in
      let passed = err_from_is_err_and c.from_residual-in_err-defines.result c.from_residual-in_err-defines.ensures.1 in
      gives_passed c.from_residual-in_err-defines.result passed.0 _ passed.1 (cc (passed.2, memory));
  tells = let so_1 = c.in_ok-naming.ensures.tells in let so_2 = then_goes (naming_awaited) [] ((children_line ∷ [])) [] so_1 c.in_ok-children.ensures.tells in let so_3 = then_goes (naming_awaited ++ (children_line ∷ [])) [] ((contents_line ∷ [])) [] so_2 c.in_ok-contents.ensures.tells in let so_4 = then_goes (naming_awaited ++ (children_line ∷ []) ++ (contents_line ∷ [])) [] ((flags_line ∷ [])) [] so_3 c.in_ok-flags.ensures.tells in let passed = err_from_is_err_and c.from_residual-in_err-defines.result c.from_residual-in_err-defines.ensures.1 in passed_on c.from_residual-in_err-defines.result passed.0 c.in_err-defines.field-0.0 c.args.lines.now _ family_awaited (λ _. []) passed.1 passed.2 (later_fails c.in_err-defines.field-0.0 (naming_awaited ++ (children_line ∷ []) ++ (contents_line ∷ []) ++ (flags_line ∷ [])) ((defines_line ∷ [])) ([]) so_4 c.in_err-defines.ensures.tells);
}

pub returns : goal.returns
returns c = record {
  reads = λ x rest h l.
      let naming = c.in_ok-naming.ensures.reads x.header (fields (codes "children" ∷ list_literal (object_list x.children) ∷ []) ∷ fields (codes "contents" ∷ list_literal (object_list x.contents) ∷ []) ∷ fields (codes "flags" ∷ flags_text x ∷ []) ∷ fields (codes "defines" ∷ list_literal (text_list x.defines) ∷ []) ∷ rest) (family_header x h) l in
      let children = c.in_ok-children.ensures.reads x.children (fields (codes "contents" ∷ list_literal (object_list x.contents) ∷ []) ∷ fields (codes "flags" ∷ flags_text x ∷ []) ∷ fields (codes "defines" ∷ list_literal (text_list x.defines) ∷ []) ∷ rest) refl (family_children x h) naming.1 in
      let contents = c.in_ok-contents.ensures.reads x.contents (fields (codes "flags" ∷ flags_text x ∷ []) ∷ fields (codes "defines" ∷ list_literal (text_list x.defines) ∷ []) ∷ rest) refl (family_contents x h) children.1 in
      let flags = c.in_ok-flags.ensures.reads x (fields (codes "defines" ∷ list_literal (text_list x.defines) ∷ []) ∷ rest) contents.1 in
      let defines = c.in_ok-defines.ensures.reads x.defines rest refl (family_defines x h) flags.1 in
      ((c.header.ensures.reads x naming.0 flags.0, record { children = children.0; contents = contents.0; defines = defines.0 }), defines.1);
  tells = let so_1 = c.in_ok-naming.ensures.tells in let so_2 = then_goes (naming_awaited) [] ((children_line ∷ [])) [] so_1 c.in_ok-children.ensures.tells in let so_3 = then_goes (naming_awaited ++ (children_line ∷ [])) [] ((contents_line ∷ [])) [] so_2 c.in_ok-contents.ensures.tells in let so_4 = then_goes (naming_awaited ++ (children_line ∷ []) ++ (contents_line ∷ [])) [] ((flags_line ∷ [])) [] so_3 c.in_ok-flags.ensures.tells in let so_5 = then_goes (naming_awaited ++ (children_line ∷ []) ++ (contents_line ∷ []) ++ (flags_line ∷ [])) [] ((defines_line ∷ [])) [] so_4 c.in_ok-defines.ensures.tells in so_5;
}

use Rattle.std.proofs.Common.{List, ℕ, ◌≡◌, ◌*◌, ◌≤◌, ◌∙◌, length, sym, ap, subst, arith}
use Rattle.sheets.specs.declared.Entry.{Entry}
use Rattle.sheets.specs.Sheets.{part_length, answers, parts_filled}
use Rattle.sheets.proofs.Filling.{filling_on, filling_end, part_inside}
use Rattle.sheets.proofs.Promise.{parts_fit, sheet_refused, sheet_answered}
use Rattle.sheets.proofs.sheet_file.Goals as goal

-- past the end of a sheet
abbrev blank : Entry
blank = record { right = 0; verdict = 0; count = 0 }

room : (s : List Entry) (b : List ℕ) (k : ℕ) → k ≡ part_length s b → length s * k ≤ length b
room s b k e = subst (λ (n : ℕ). length s * n ≤ length b) (sym e) (parts_fit s b)

pub returns-then-n-gt-SHEET : goal.returns-then-n-gt-SHEET
returns-then-n-gt-SHEET c = sheet_refused _ _ _ c.if-n-gt-SHEET.true

pub ask-requires : goal.ask-requires
ask-requires c = ((c.args.file.now, c.prepare_file-prepared.ensures), part_inside _ _ _ _ _ _ _ c.loop-i.invariant blank (omega arith) (room _ _ _ c.part_length-part.ensures))

pub loop-i-preserved : goal.loop-i-preserved
loop-i-preserved c =
    let said = c.ask.ensures c.args.file.now c.prepare_file-prepared.ensures in
    filling_on _ _ _ _ _ _ _ c.loop-i.invariant blank (omega arith) (room _ _ _ c.part_length-part.ensures) _ _ said.0 said.1 c.ask.auto.buffer

pub returns : goal.returns
returns c =
    let last = filling_end _ _ _ _ _ _ _ c.loop-i.invariant (omega arith) (omega arith) in
    let k = c.part_length-part.ensures in
    sheet_answered _ _ _ c.if-n-gt-SHEET.false _ _ (last.0 ∙ ap (λ (n : ℕ). answers c.args.file.now n c.args.sheet.now) k) (last.1 ∙ ap (λ (n : ℕ). parts_filled c.args.file.now n c.args.sheet.now c.args.buffer.now) k)

use Prim.Native.Nat.{◌*◌}
use Rattle.sheets.proofs.Asking.{asked_count, asked}
use Rattle.sheets.proofs.ask.Goals as goal

pub entry_of-requires : goal.entry_of-requires
entry_of-requires c =
    let s = c.args in
    asked_count s.file.now s.right (s.i * s.part) s.part s.buffer.now c.judge_prepared-judgement.result _ c.judge_prepared-judgement.ensures c.requires.1 c.requires.0.0 c.requires.0.1

pub returns : goal.returns
returns c =
    let s = c.args in
    asked s.file.now s.right (s.i * s.part) s.part s.buffer.now c.judge_prepared-judgement.result _ c.judge_prepared-judgement.ensures c.requires.1 c.entry_of.result c.entry_of.ensures

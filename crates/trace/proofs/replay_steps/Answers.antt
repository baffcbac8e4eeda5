use Rattle.std.proofs.Common.{◌≡◌, ◌/◌, length, rules, ap, ◌∙◌}
use Rattle.matrix.proofs.Inverse.{canonical_wider}
use Rattle.execution.specs.Runs.{Done, answer_told, executed_of}
use Rattle.trace.specs.Traces.{step_at}
use Rattle.trace.specs.Replays.{replay_told}
use Rattle.trace.proofs.Replaying.{told_leak, told_refused, told_quiet, replay_start, replay_stop, replay_more, replay_end}
use Rattle.trace.proofs.replay_steps.Goals as goal
use Rattle.trace.proofs.replay_steps.Goals.{in_default-via-in-Ok+in_default, in_default-via-in_default}

pub loop-reader-init : goal.loop-reader-init
loop-reader-init c = record {
  same = search rules;
  canonical = canonical_wider _ _ _ _ c.requires.few_rights c.requires.matrix_fits;
  left = replay_start c.args.p.now c.args.trace.now c.args.right c.new-reader.result.at c.args.p.now.matrix c.new-reader.ensures.1;
}

pub returns-in_default : goal.returns-in_default
returns-in_default c =
    let s : c.step-step.result ≡ step_at c.args.trace.now c.loop-reader.reader.at = c.step-step.ensures ∙ ap (λ t. step_at t c.loop-reader.reader.at) c.loop-reader.invariant.same in
    let halts : answer_told c.call-answer.result ≡ Done → ⊥ = elim c.in_default.branch [
      | in_default-via-in-Ok+in_default w ↦ told_leak _ _ w.in_default.is (search rules)
      | in_default-via-in_default w ↦ told_refused _ _ w.in_default.is
    ] in
    replay_stop c.args.p.now c.args.trace.now c.args.right (length c.args.trace.now / 5) c.loop-reader.reader.at c.loop-reader.matrix c.step-step.result s
    (executed_of (answer_told c.call-answer.result) c.call-answer.new.matrix) c.call-answer.ensures c.loop-reader-test.true _ c.loop-reader.invariant.left (replay_told c.end_of.result) halts c.end_of.ensures

pub loop-reader-preserved : goal.loop-reader-preserved
loop-reader-preserved c =
    let s : c.step-step.result ≡ step_at c.args.trace.now c.loop-reader.reader.at = c.step-step.ensures ∙ ap (λ t. step_at t c.loop-reader.reader.at) c.loop-reader.invariant.same in
    record {
      same = search rules;
      canonical = c.call-answer.ensures.canonical;
      left = replay_more c.args.p.now c.args.trace.now c.args.right (length c.args.trace.now / 5) c.loop-reader.reader.at c.loop-reader.matrix c.step-step.result s
          (executed_of (answer_told c.call-answer.result) c.call-answer.new.matrix) c.call-answer.ensures c.loop-reader-test.true _ c.loop-reader.invariant.left c.past-reader.result.at c.past-reader.ensures.1
          (told_quiet _ _ c.in-Ok-NoLeak.is (rw c.in-Ok-NoLeak.is at c.in-Ok-NoLeak.field-0-is));
    }

pub returns : goal.returns
returns c = replay_end c.args.p.now c.args.trace.now c.args.right (length c.args.trace.now / 5) c.loop-reader.reader.at c.loop-reader.matrix _ c.loop-reader-test.false c.loop-reader.invariant.left

-- The enums of a replay's, of the judge's and of a need's answer as the two numbers of the boundary. Assumes nothing.
use Prim.Native.Nat.{ℕ}
use mathlib.Core.List.{List}
use lib.ListN.{length}
use mathlib.Core.Path.{◌≡◌, refl, sym, ap, ◌∙◌, subst}
use Rattle.std.specs.Prelude.{Result, Ok, Err, Option, Some, None}
use Rattle.refusals.specs.Numbers.{number_of}
use Rattle.refusals.specs.declared.Refusal.{Refusal}
use Rattle.trace.specs.Replays.{Replay, NoLeak, Leak, replay_told}
use Rattle.trace.specs.declared.RefusedStep.{RefusedStep}
use Rattle.safety.specs.Demand3.{Judgement, judgement_told, steps_written}
use Rattle.safety.specs.Judgement.{judgement_code, Judged}
use Rattle.safety.specs.declared.Verdict.{Verdict}
use Rattle.exports.specs.Replay.{ReplayAnswer}
use Rattle.needs.specs.Needed.{file_need, need_code, steps_taken, Needed, needed_told, Need, Refused, Held, Never}
use Rattle.needs.specs.declared.Need.{Need as CodeNeed}
use Rattle.needs.specs.declared.Need.TheVariants as code
use Rattle.exports.specs.Judge.{JudgeAnswer}
use Rattle.parts.specs.Parts.{PartJudged}
use Rattle.exports.specs.Part.{PartAnswer}
use Rattle.exports.specs.Need.{NeedAnswer}

module _ (a : Replay) where
  pub no_leak : (o : Option ℕ) → replay_told (Ok o) ≡ a → o ≡ None → ReplayAnswer a 0 0
  no_leak o e d = let t : replay_told (Ok o) ≡ NoLeak = rw d in subst (λ (w : Replay). ReplayAnswer w 0 0) (sym t ∙ e) (record { code = refl; at = refl })

  pub leak : (o : Option ℕ) → replay_told (Ok o) ≡ a → (i : ℕ) → o ≡ Some i → ReplayAnswer a 255 i
  leak o e i d = let t : replay_told (Ok o) ≡ Leak i = rw d in subst (λ (w : Replay). ReplayAnswer w 255 i) (sym t ∙ e) (record { code = refl; at = refl })

  pub refusal : (x : RefusedStep) → replay_told (Err x) ≡ a → (n : ℕ) → n ≡ number_of x.by → ReplayAnswer a n x.step
  refusal x e n d = subst (λ (w : Replay). ReplayAnswer w n x.step) e (record { code = d; at = refl })

pub numbers-refused : (x : Result Verdict Refusal) (r : Refusal) → x ≡ Err r → (n : ℕ) → n ≡ number_of r → (n ≡ judgement_code (judgement_told x)) × (0 ≡ steps_written (judgement_told x))
numbers-refused x r e n d = (rw e d, rw e)

pub judge-answers : (f : List ℕ) (right : ℕ) (b b' : List ℕ) (j : Judgement) → Judged f right b j b' → (r steps : ℕ) → (r ≡ judgement_code j) × (steps ≡ steps_written j) → JudgeAnswer f right b r steps b'
judge-answers f right b b' j J r steps e =
    record { code = e.0 ∙ ap judgement_code J.answer_is; written = e.1 ∙ ap steps_written J.answer_is; judged = subst (λ (x : Judgement). Judged f right b x b') J.answer_is J }

pub part-answers : (f : List ℕ) (right : ℕ) (l b b' : List ℕ) (j : Judgement) → PartJudged f right l b j b' → (r steps : ℕ) → (r ≡ judgement_code j) × (steps ≡ steps_written j) → PartAnswer f right l b r steps b'
part-answers f right l b b' j J r steps e =
    record { code = e.0 ∙ ap judgement_code J.answer_is; written = e.1 ∙ ap steps_written J.answer_is; judged = subst (λ (x : Judgement). PartJudged f right l b x b') J.answer_is J }

module _ (f l b b' : List ℕ) (j : Need) (J : Needed f l b j b') where
  needs-are : (i : Need) → j ≡ i → NeedAnswer f l b (need_code i) (steps_taken i) b'
  needs-are i d =
      let e : i ≡ file_need f l (length b) = sym d ∙ J.answer_is in
      record { code = ap need_code e; written = ap steps_taken e; needed = subst (λ (x : Need). Needed f l b x b') J.answer_is J }

  pub need-refuses : (r : Refusal) → j ≡ Refused (number_of r) → (n : ℕ) → n ≡ number_of r → NeedAnswer f l b n 0 b'
  need-refuses r d n e = subst (λ (k : ℕ). NeedAnswer f l b k 0 b') (sym e) (needs-are (Refused (number_of r)) d)

  pub need-holds : (v : CodeNeed) → j ≡ needed_told v → (n : ℕ) → v ≡ code.Held n → NeedAnswer f l b 255 n b'
  need-holds v d n e = needs-are (Held n) (d ∙ ap needed_told e)

  pub need_never : (v : CodeNeed) → j ≡ needed_told v → (n : ℕ) → v ≡ code.Never n → NeedAnswer f l b 0 n b'
  need_never v d n e = needs-are (Never n) (d ∙ ap needed_told e)

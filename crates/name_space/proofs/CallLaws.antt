-- Calls that change nothing.
use Rattle.std.proofs.Common.{◌≡◌, Bool, true, false, refl, sym, ◌∙◌}
use Rattle.std.proofs.lemmas.Bool.{true≢false}
use Rattle.name_space.specs.declared.reply.Exception.{Exception}
use Rattle.name_space.specs.declared.reply.Reply.TheVariants.{Refused}
use Rattle.name_space.specs.Call.{changes}
use Rattle.name_space.specs.Namespace.{Namespace}
use Rattle.name_space.specs.Plain.{Answered, granted}
use Rattle.name_space.proofs.CallCases.{by_cases}
use Rattle.name_space.specs.Laws.{RefusalsChangeNothing, LookingChangesNothing}

-- what is granted isn't refused
not_refused : (space after : Namespace) (exception : Exception) → (granted after).reply ≡ Refused exception → after ≡ space
not_refused space after exception refused = cc

-- a call that may change something doesn't look
not_looking : (space after : Namespace) (may : Bool) → may ≡ true → may ≡ false → after ≡ space
not_looking space after may is looks = absurd (true≢false (sym is ∙ looks))

pub refusals_change_nothing : RefusalsChangeNothing
refusals_change_nothing space client user call =
    by_cases space client user call (λ (answer : Answered). (exception : Exception) → answer.reply ≡ Refused exception → answer.space ≡ space) (record {
      tells = λ reply exception refused. refl;
      dirs = λ user path names no_file room. not_refused space _;
      file = λ client user path names no_dir no_file room. not_refused space _;
      entry = λ may path new old was kind bytes. not_refused space _;
      longer = λ may path len bytes writer mode owner was room. not_refused space _;
      gone = λ may path not_root. not_refused space _;
      moves = λ source destination from to moves. not_refused space _;
    })

pub looking_changes_nothing : LookingChangesNothing
looking_changes_nothing space client user call =
    by_cases space client user call (λ (answer : Answered). changes call ≡ false → answer.space ≡ space) (record {
      tells = λ reply looks. refl;
      dirs = λ user path names no_file room. not_looking space _ (changes call) names.0;
      file = λ client user path names no_dir no_file room. not_looking space _ (changes call) names.0;
      entry = λ may path new old was kind bytes. not_looking space _ (changes call) may;
      longer = λ may path len bytes writer mode owner was room. not_looking space _ (changes call) may;
      gone = λ may path not_root. not_looking space _ (changes call) may;
      moves = λ source destination from to moves. not_looking space _ (changes call) from.0;
    })

-- Events and the lines that tell them, one after another.
use Rattle.std.proofs.Common.{◌≡◌, ℕ, ◌+◌, ◌-◌, ◌<◌, ◌≤◌, ◌==◌, ◌&&◌, true, false, not, cond, suc, List, [], ◌∷◌, ◌++◌, length, take, drop, get_or, map, flat_map, Option, Some, None, option_map, MatchOption, refl, sym, ap, subst, ◌∙◌, append-nil, append_assoc, length-append, arith}
use Rattle.std.specs.List.{list_all, position_from}
use Rattle.std.proofs.lemmas.Bool.Decides.{nat_tests}
use Rattle.std.proofs.Math.Seq.{drop-append_seam}
use Rattle.std.proofs.lemmas.List.{take_all, take_more, length-take-le}
use Rattle.std.proofs.lemmas.List.Concat.{flat_map-append}
use Rattle.hops_base.specs.declared.ids.SessionId.{SessionId}
use Rattle.name_space.specs.Script.{Script, call_of}
use Rattle.name_space.specs.declared.call.Call.{Call}
use Rattle.name_space.specs.Namespace.{Namespace}
use Rattle.commit_log.specs.Legal.{space}
use Rattle.commit_log.specs.declared.note.Note.{Note}
use Rattle.commit_log.specs.declared.note.Note.TheVariants.{Open}
use Rattle.db_state.specs.Callers.{IsOpen}
use Rattle.db_state.specs.Core.{IsCore}
use Rattle.db_state.specs.Settings.{Settings}
use Rattle.db_state.specs.State.{State, opening_state}
use Rattle.db_state.specs.Steps.{next_session}
use Rattle.hops_core.specs.Events.{Happens}
use Rattle.hops_core.specs.Follows.{LeavesOthers}
use Rattle.hops_core.specs.declared.begin_fault.BeginFault.TheVariants as fault
use Rattle.hops_core.specs.declared.event.Event.{Event}
use Rattle.hops_core.specs.declared.event.Event.TheVariants as event
use Rattle.hops_core.specs.declared.event.EventAnswer.{EventAnswer}
use Rattle.hops_core.specs.declared.event.EventAnswer.TheVariants.{Skipped, Opened, Refused, Advanced, Ended}
use Rattle.hops_core.specs.declared.progress.Progress.TheVariants.{More, Met, Done, Fenced, NoMemory}
use Rattle.serde_json.specs.Written.{has_float}
use Rattle.report_text.specs.Entries.{place_data}
use Rattle.report_text.specs.Report.{counts_data, line_of, notes_data}
use Rattle.report_text.proofs.NoFloat.{no_float_in_reply}
use Rattle.core_replay.specs.declared.listed.Listed.{Listed}
use Rattle.core_replay.specs.declared.listed.Listed.TheVariants.{Begin, Advance, Quit, Stop, Beat, Sweep}
use Rattle.core_replay.specs.declared.unbuilt.Unbuilt.TheVariants as unbuilt
use Rattle.core_replay.specs.Built.{is_built_event, first_unbuilt}
use Rattle.core_replay.specs.Parts.{AreTold, IsTold}
use Rattle.core_replay.specs.Replay.{settings_of, Comes, Made, Makes, MakesAll, made_data, IsReplayOf}
use Rattle.core_replay.specs.Told.{has_memory, event_data}

-- ---- an event adds notes to the book

-- the book of the one state is that of the other and further notes
abbrev pub Adds : State → State → Type 0
Adds old new = (added : List Note) × (new.stored.notes ≡ old.stored.notes ++ added)

same_adds : (old new : State) → new ≡ old → Adds old new
same_adds old new same = ([], ap (λ (s : State). s.stored.notes) same ∙ sym (append-nil old.stored.notes))

session_adds : (old new : State) (s : SessionId) → IsOpen old s → LeavesOthers old new s → Adds old new
session_adds old new s running leaves = let follows = leaves running.0 running.1 in (follows.added, follows.notes)

happens_adds : (old new : State) (e : Event) (told : EventAnswer) → Happens old e told new → Adds old new
happens_adds old new (event.Begin client number call node) Skipped so = same_adds old new so.1
happens_adds old new (event.Begin client number call node) (Opened s) so = (Open (next_session old) client number node ∷ [], ap (λ (x : State). x.stored.notes) so.1.1)
happens_adds old new (event.Begin client number call node) (Refused (fault.NodeGone i)) so = absurd so.1
happens_adds old new (event.Begin client number call node) (Refused fault.NoMemory) so = ([], ap (λ (x : State). x.stored.notes) so.1 ∙ sym (append-nil old.stored.notes))
happens_adds old new (event.Begin client number call node) (Advanced progress) so = absurd so
happens_adds old new (event.Begin client number call node) Ended so = absurd so
happens_adds old new (event.Advance s hints) Skipped so = same_adds old new so.1
happens_adds old new (event.Advance s hints) (Opened t) so = absurd so
happens_adds old new (event.Advance s hints) (Refused why) so = absurd so
happens_adds old new (event.Advance s hints) (Advanced progress) so = session_adds old new s so.0 so.2
happens_adds old new (event.Advance s hints) Ended so = absurd so
happens_adds old new (event.Quit s) Skipped so = same_adds old new so.1
happens_adds old new (event.Quit s) (Opened t) so = absurd so
happens_adds old new (event.Quit s) (Refused why) so = absurd so
happens_adds old new (event.Quit s) (Advanced progress) so = absurd so
happens_adds old new (event.Quit s) Ended so = session_adds old new s so.0 so.2

pub comes_adds : (script : Script) (old new : State) (listed : Listed) (told : EventAnswer) → Comes script old listed told new → Adds old new
comes_adds script old new (Begin client number node) told so =
    elim (call_of script client number) as (λ (asked : Option Call). MatchOption asked ((told ≡ Skipped) × (new ≡ old)) (λ (call : Call). Happens old (event.Begin client number call node) told new) → Adds old new) [
      | None ↦ λ none. same_adds old new none.1
      | Some call ↦ λ happens. happens_adds old new (event.Begin client number call node) told happens
    ] so
comes_adds script old new (Advance s hints) told so = happens_adds old new (event.Advance s hints) told so
comes_adds script old new (Quit s) told so = happens_adds old new (event.Quit s) told so
comes_adds script old new (Stop node) told so = absurd so
comes_adds script old new (Beat node) told so = absurd so
comes_adds script old new Sweep told so = absurd so

-- ---- one event more

-- how many notes events made
abbrev notes_in : List Made → ℕ
notes_in [] = 0
notes_in (made ∷ others) = length made.notes + notes_in others

makes_push : (script : Script) (old mid new : State) (events : List Listed) (all : List Made) (listed : Listed) (made : Made)
    → MakesAll script old events all mid → Makes script mid listed made new → MakesAll script old (events ++ listed ∷ []) (all ++ made ∷ []) new
makes_push script old mid new [] [] listed made so makes = (new, subst (λ (x : State). Makes script x listed made new) so makes, refl)
makes_push script old mid new [] (m ∷ all) listed made so makes = absurd so
makes_push script old mid new (e ∷ events) [] listed made so makes = absurd so
makes_push script old mid new (e ∷ events) (m ∷ all) listed made so makes = (so.0, so.1, makes_push script so.0 mid new events all listed made so.2 makes)

as_many : (script : Script) (old new : State) (events : List Listed) (all : List Made) → MakesAll script old events all new → length all ≡ length events
as_many script old new [] [] so = refl
as_many script old new [] (m ∷ all) so = absurd so
as_many script old new (e ∷ events) [] so = absurd so
as_many script old new (e ∷ events) (m ∷ all) so = ap suc (as_many script so.0 new events all so.2)

-- the book has the notes that were made
counted : (script : Script) (old new : State) (events : List Listed) (all : List Made) → MakesAll script old events all new → length new.stored.notes ≡ length old.stored.notes + notes_in all
counted script old new [] [] so = let same = ap (λ (s : State). length s.stored.notes) so in omega (arith, same)
counted script old new [] (m ∷ all) so = absurd so
counted script old new (e ∷ events) [] so = absurd so
counted script old new (e ∷ events) (m ∷ all) so =
    let rest = counted script so.0 new events all so.2 in
    let first = ap length so.1.notes ∙ length-append old.stored.notes m.notes in
    omega (arith, rest, first)

-- their lines, with those of one event more
data_push : (place first k n : ℕ) (all : List Made) (made : Made) → k ≡ place + length all → n ≡ first + notes_in all
    → made_data place first (all ++ made ∷ []) ≡ made_data place first all ++ (notes_data n made.notes ++ event_data k made.answer ∷ [])
data_push place first k n [] made at from =
    let here : k ≡ place = omega (arith, at) in
    let none : n ≡ first = omega (arith, from) in
    rw here (rw none refl)
data_push place first k n (m ∷ all) made at from =
    let rest = data_push (place + 1) (first + length m.notes) k n all made (omega (arith, at)) (omega (arith, from)) in
    let more = notes_data n made.notes ++ event_data k made.answer ∷ [] in
    ap (λ values. notes_data first m.notes ++ event_data place m.answer ∷ values) rest
    ∙ sym (append_assoc (notes_data first m.notes) (event_data place m.answer ∷ made_data (place + 1) (first + length m.notes) all) more)

-- none made anything yet
pub none_told : (script : Script) (old : State) (events : List Listed) (text : List ℕ) → text ≡ [] → AreTold script old (take 0 events) old text
none_told script old events text empty = record { made = []; makes = refl; lines = empty }

pub one_more_told : (script : Script) (old mid new : State) (events : List Listed) (i : ℕ) (listed : Listed) (before after : List ℕ) → i < length events → listed ≡ get_or events i listed
    → old.stored.notes ≡ [] → AreTold script old (take i events) mid before → IsTold script mid i listed new before after → AreTold script old (take (i + 1) events) new after
one_more_told script old mid new events i listed before after low is empty all one =
    let more : take (i + 1) events ≡ take i events ++ listed ∷ [] = take_more events i listed low ∙ ap (λ e. take i events ++ e ∷ []) (sym is) in
    let many : length all.made ≡ i = as_many script old mid (take i events) all.made all.makes ∙ length-take-le i events (omega arith) in
    let none : length old.stored.notes ≡ 0 = ap length empty in
    let count = counted script old mid (take i events) all.made all.makes in
    let pushed = data_push 0 0 i (length mid.stored.notes) all.made one.made (omega (arith, many)) (omega (arith, count, none)) in
    let lines = notes_data (length mid.stored.notes) one.made.notes ++ event_data i one.made.answer ∷ [] in
    record {
      made = all.made ++ one.made ∷ [];
      makes = subst (λ (es : List Listed). MakesAll script old es (all.made ++ one.made ∷ []) new) (sym more) (makes_push script old mid new (take i events) all.made listed one.made all.makes one.makes);
      lines = one.lines ∙ ap (λ text. text ++ flat_map line_of lines) all.lines ∙ sym (flat_map-append line_of (made_data 0 0 all.made) lines) ∙ ap (flat_map line_of) (sym pushed);
    }

-- ---- one event

-- what stands behind a list that others begin with
behind : {A : Type 0} (xs ys zs : List A) → zs ≡ xs ++ ys → take (length zs - length xs) (drop (length xs) zs) ≡ ys
behind xs ys zs is =
    let rest : drop (length xs) zs ≡ ys = ap (drop (length xs)) is ∙ drop-append_seam xs ys in
    let long : length ys ≤ length zs - length xs = let total = ap length is ∙ length-append xs ys in omega (arith, total) in
    ap (take (length zs - length xs)) rest ∙ take_all _ _ long

pub told_one : (script : Script) (old new : State) (place : ℕ) (listed : Listed) (told : EventAnswer) (first : ℕ) (all : List Note) (before middle after : List ℕ)
    → Comes script old listed told new → IsCore new → has_memory told ≡ true → first ≡ length old.stored.notes → all ≡ new.stored.notes
    → middle ≡ before ++ flat_map line_of (notes_data first (take (length all - first) (drop first all))) → after ≡ middle ++ line_of (event_data place told) → IsTold script old place listed new before after
told_one script old new place listed told first all before middle after comes core memory from whole noted said =
    let adds = comes_adds script old new listed told comes in
    let added : take (length all - first) (drop first all) ≡ adds.0 =
    ap (λ n. take (length all - n) (drop n all)) from ∙ behind old.stored.notes adds.0 all (whole ∙ adds.1) in
    let lines : flat_map line_of (notes_data first (take (length all - first) (drop first all))) ≡ flat_map line_of (notes_data (length old.stored.notes) adds.0) =
    ap (λ notes. flat_map line_of (notes_data first notes)) added ∙ ap (λ n. flat_map line_of (notes_data n adds.0)) from in
    let line = event_data place told in
    let joined : flat_map line_of (notes_data (length old.stored.notes) adds.0 ++ line ∷ []) ≡ flat_map line_of (notes_data (length old.stored.notes) adds.0) ++ line_of line =
    flat_map-append line_of (notes_data (length old.stored.notes) adds.0) (line ∷ []) ∙ ap (λ rest. flat_map line_of (notes_data (length old.stored.notes) adds.0) ++ rest) (append-nil (line_of line)) in
    record {
      made = record { notes = adds.0; answer = told };
      makes = record { comes = comes; notes = adds.1; memory = memory; core = core };
      lines = said ∙ ap (λ text. text ++ line_of line) (noted ∙ ap (λ ls. before ++ ls) lines) ∙ append_assoc before (flat_map line_of (notes_data (length old.stored.notes) adds.0)) (line_of line) ∙ ap (λ rest. before ++ rest) (sym joined);
    }

-- ---- the whole text

pub is_replay : (script : Script) (settings : Settings) (opened last : State) (events : List Listed) (tree shown : Namespace) (notes made paths : ℕ) (told placed text : List ℕ)
    → AreTold script opened events last told → settings ≡ settings_of script → opened ≡ opening_state settings → IsCore last
    → tree ≡ space last.stored.settings.users last.stored.notes → shown ≡ tree → placed ≡ told ++ flat_map line_of (map place_data shown)
    → notes ≡ length last.stored.notes → made ≡ length events → paths ≡ length tree → text ≡ placed ++ line_of (counts_data notes made paths) → IsReplayOf script events text
is_replay script settings opened last events tree shown notes made paths told placed text all known opening core spelled same added noted many long ended =
    let lasting : shown ≡ space last.stored.settings.users last.stored.notes = same ∙ spelled in
    let place_lines = flat_map line_of (map place_data (space last.stored.settings.users last.stored.notes)) in
    let counts = counts_data (length last.stored.notes) (length all.made) (length (space last.stored.settings.users last.stored.notes)) in
    let as_told : counts_data notes made paths ≡ counts =
    ap (λ n. counts_data n made paths) noted ∙ ap (λ n. counts_data (length last.stored.notes) n paths) (many ∙ sym (as_many script opened last events all.made all.makes))
    ∙ ap (λ n. counts_data (length last.stored.notes) (length all.made) n) (long ∙ ap length spelled) in
    let rest : flat_map line_of (map place_data (space last.stored.settings.users last.stored.notes) ++ counts ∷ []) ≡ place_lines ++ line_of counts =
    flat_map-append line_of (map place_data (space last.stored.settings.users last.stored.notes)) (counts ∷ []) ∙ ap (λ ls. place_lines ++ ls) (append-nil (line_of counts)) in
    record {
      made = all.made;
      last = last;
      makes = subst (λ (old : State). MakesAll script old events all.made last) (opening ∙ ap opening_state known) all.makes;
      core = core;
      text_is = ended ∙ ap (λ c. placed ++ line_of c) as_told ∙ ap (λ ls. ls ++ line_of counts) (added ∙ ap (λ tree. told ++ flat_map line_of (map place_data tree)) lasting)
          ∙ append_assoc told place_lines (line_of counts) ∙ ap (λ ls. told ++ ls) (sym rest)
          ∙ ap (λ ls. ls ++ flat_map line_of (map place_data (space last.stored.settings.users last.stored.notes) ++ counts ∷ [])) all.lines
          ∙ sym (flat_map-append line_of (made_data 0 0 all.made) (map place_data (space last.stored.settings.users last.stored.notes) ++ counts ∷ []));
    }

-- ---- all that is needed is built

all_built : (script : Script) (n : ℕ) (events : List Listed) → position_from (λ (event : Listed). not (is_built_event script event)) n events ≡ None → list_all (is_built_event script) events ≡ true
all_built script n [] none = refl
all_built script n (e ∷ events) none =
    elim (is_built_event script e) as (λ b. cond (not b) (Some n) (position_from (λ (event : Listed). not (is_built_event script event)) (n + 1) events) ≡ None → (b && list_all (is_built_event script) events) ≡ true) [
      | true ↦ λ rest. all_built script (n + 1) events rest
      | false ↦ λ found. absurd (let bad = found in cc)
    ] none

no_place : (found : Option ℕ) → option_map unbuilt.Event found ≡ None → found ≡ None
no_place None is = refl
no_place (Some n) is = absurd (let bad = is in cc)

no_stops : {A : Type 0} (stops : List A) → (length stops == 0) ≡ true → stops ≡ []
no_stops [] none = refl
no_stops (stop ∷ stops) none = let empty : length (stop ∷ stops) ≡ 0 = grind (arith, nat_tests) in absurd (omega (arith, empty))

-- nothing stops, and each event is built
pub built_from : (script : Script) (events : List Listed) → first_unbuilt script events ≡ None → (script.stops ≡ []) × (list_all (is_built_event script) events ≡ true)
built_from script events none =
    let place = position_from (λ (event : Listed). not (is_built_event script event)) 0 events in
    (elim (length script.stops == 0) as (λ b. (length script.stops == 0) ≡ b → cond b (option_map unbuilt.Event place) (Some unbuilt.Script) ≡ None
    → (script.stops ≡ []) × (list_all (is_built_event script) events ≡ true)) [
      | true ↦ λ still rest. (no_stops script.stops still, all_built script 0 events (no_place place rest))
      | false ↦ λ still rest. absurd (let bad = rest in cc)
    ]) refl none

-- ---- the lines have no float

pub no_float_told : (place : ℕ) (told : EventAnswer) → has_float (event_data place told) ≡ false
no_float_told place Skipped = refl
no_float_told place (Opened s) = refl
no_float_told place (Refused (fault.NodeGone i)) = refl
no_float_told place (Refused fault.NoMemory) = refl
no_float_told place (Advanced More) = refl
no_float_told place (Advanced (Met i)) = refl
no_float_told place (Advanced (Done i reply)) = rw (no_float_in_reply reply) refl
no_float_told place (Advanced (Fenced i)) = refl
no_float_told place (Advanced NoMemory) = refl
no_float_told place Ended = refl

-- What a run's report tells.
use Rattle.std.proofs.Common.{◌≡◌, ℕ, Bool, true, false, ◌&&◌, ◌||◌, zero, suc, List, [], ◌∷◌, ◌++◌, map as list_map, length, drop, slice_get, unwrap_or, Option, Some, None, refl, ap, sym, subst, ◌∙◌, append-nil}
use Rattle.std.specs.List.{list_all, list_any, after_first, flat_map, enumerate_from, range_with_len, AllByRecursion}
use Rattle.std.specs.List.Sorted.{IsStrictlySortedBy}
use Rattle.std.specs.Ordering.{nat_cmp}
use Rattle.std.proofs.Math.Seq.{take-length}
use Rattle.std.proofs.lemmas.List.{length-map}
use Rattle.hops_base.specs.Ids.{client}
use Rattle.hops_base.specs.declared.ids.NodeNo.{NodeNo}
use Rattle.hops_base.specs.declared.ids.SessionId.{SessionId}
use Rattle.name_space.specs.declared.call.Call.{Call}
use Rattle.name_space.specs.declared.reply.Reply.{Reply}
use Rattle.name_space.specs.Namespace.{Namespace, Path, IsNamespace, opening}
use Rattle.name_space.specs.Calls.{replies_of, space_after_calls}
use Rattle.name_space.specs.Script.{Script, ClientCalls, users_of}
use Rattle.commit_log.specs.declared.note.Note.{Note}
use Rattle.commit_log.specs.declared.note.Note.TheVariants.{Open, Took, Gave, Wrote, Did, Cut, Met, Gone}
use Rattle.commit_log.specs.declared.answer.AnswerLine.{AnswerLine}
use Rattle.commit_log.specs.Along.{EachAfter, Each}
use Rattle.commit_log.specs.Answers.{calls_of, calls_in, call_answered, dones, AccountedAt, Answers}
use Rattle.commit_log.specs.Kept.{AnswersHeld, CutsInTimeAt, CutOnceAt, EndKept, Kept, KeptWithoutLocks, ReclaimsLostAt, SubtreesFlagged, SubtreesFlaggedAt}
use Rattle.commit_log.specs.Legal.{Legal, space}
use Rattle.commit_log.specs.Members.{EvictsMembersAt, is_void, VoidIsSilentAt}
use Rattle.commit_log.specs.Orderly.{AllowedAt, AnsweredAt, NumberedAt, Orderly}
use Rattle.commit_log.specs.Parts.{passes, Opening, opens_session, opening_of, is_loss_of, is_stop_of}
use Rattle.commit_log.specs.Stops.{has_stopped, OpensNoMoreAt, StopsInTimeAt}
use Rattle.commit_log.specs.Terms.{terms_of}
use Rattle.commit_log.specs.Told.{ExplainedAt}
use Rattle.commit_log.proofs.SpaceLaws.{space-none, space-push}
use Rattle.name_space.proofs.CallForms.{valid_paths}
use Rattle.name_space.proofs.NamespaceLaws.{opening_is_a_namespace}
use Rattle.name_space.proofs.PlainLaws.{plain_keeps_a_namespace}
use Rattle.name_space.specs.Call.{a_path, is_in_range, is_valid, paths_of}
use Rattle.hops_base.specs.Name.{is_name}
use Rattle.std.specs.Cmp.{first_so, second_so}
use Rattle.hops_cli.proofs.SubtreeLemmas.{takes_none}
use Rattle.db_state.specs.BookParts.{terms_in, IsBook}
use Rattle.db_state.specs.Core.{IsCore}
use Rattle.db_state.specs.Settings.{Settings}
use Rattle.db_state.specs.State.{State}
use Rattle.hops_cli.specs.Built.{IsBuilt}
use Rattle.hops_cli.specs.Run.{reply_in, IsPlainRun, IsRun}
use Rattle.hops_cli.specs.Turning.{Turn, calls_made, turns_notes, turns_lines, AreAllTurned}
use Rattle.hops_cli.proofs.BookLemmas.{IsToldIn, Each-with, none-any, quiet_notes, all_told, lines_numbered, each_line, lines_borne, lines_rise, lines_tell}
use Rattle.hops_cli.proofs.HistoryLemmas.{replies_plain, space_plain}

-- a valid call's paths consist of names
valid_names : (asked : Call) → is_valid asked ≡ true → list_all (list_all is_name) (paths_of asked) ≡ true
valid_names asked valid = weaker (paths_of asked) (valid_paths asked valid)
  where
    weaker : (paths : List Path) → list_all (λ (path : Path). is_in_range (a_path path)) paths ≡ true → list_all (list_all is_name) paths ≡ true
    weaker [] all = refl
    weaker (path ∷ paths) all = both (list_all is_name path) (list_all (list_all is_name) paths) (first_so _ _ (first_so _ _ all)) (weaker paths (second_so _ _ all))
      where
        both : (a b : Bool) → a ≡ true → b ≡ true → (a && b) ≡ true
        both true b e f = f
        both false b e f = absurd (let bad = e in cc)

-- ---- note by note

module _ (script : Script) (lines : List AnswerLine) (settings : Settings) (notes : List Note) (told : AllByRecursion (IsToldIn script lines) notes) (book : IsBook settings notes) where
  along : (Q : List Note → Note → Type 0) → ((before : List Note) (note : Note) → AllByRecursion (IsToldIn script lines) before → IsToldIn script lines note → Q before note) → Each Q notes
  along Q gives = Each-with NumberedAt Q (IsToldIn script lines) (λ before note front here p. gives before note front here) notes told book.orderly.numbered

  no_stop : (at : NodeNo) (note : Note) → IsToldIn script lines note → is_stop_of at note ≡ false
  no_stop at (Open s c number n) here = refl
  no_stop at (Took s key mode) here = refl
  no_stop at (Gave s) here = absurd here
  no_stop at (Wrote s work) here = absurd here
  no_stop at (Did s c number call reads reply) here = refl
  no_stop at (Cut op path gone) here = absurd here
  no_stop at (Met s cause) here = absurd here
  no_stop at (Gone n ended) here = absurd here

  no_loss : (at : NodeNo) (note : Note) → IsToldIn script lines note → is_loss_of at note ≡ false
  no_loss at (Open s c number n) here = refl
  no_loss at (Took s key mode) here = refl
  no_loss at (Gave s) here = absurd here
  no_loss at (Wrote s work) here = absurd here
  no_loss at (Did s c number call reads reply) here = refl
  no_loss at (Cut op path gone) here = absurd here
  no_loss at (Met s cause) here = absurd here
  no_loss at (Gone n ended) here = absurd here

  none_dropped : (p : Note → Bool) (k : ℕ) (all : List Note) → list_any p all ≡ false → list_any p (drop k all) ≡ false
  none_dropped p zero all e = e
  none_dropped p (suc k) [] e = refl
  none_dropped p (suc k) (note ∷ all) e = none_dropped p k all (rest (p note) e)
    where
      rest : (b : Bool) → (b || list_any p all) ≡ false → list_any p all ≡ false
      rest true h = absurd (let bad = h in cc)
      rest false h = h

  not_void : (before : List Note) (s : SessionId) → AllByRecursion (IsToldIn script lines) before → is_void before s ≡ false
  not_void before s front = fails (opening_of before s)
    where
      fails : (o : Option Opening) → passes (λ (p : Opening). list_any (is_loss_of p.node) (after_first (opens_session s) before)) o ≡ false
      fails None = refl
      fails (Some p) = none_dropped (is_loss_of p.node) _ before (none-any (is_loss_of p.node) (IsToldIn script lines) (no_loss p.node) before front)

  allowed : (before : List Note) (note : Note) → AllByRecursion (IsToldIn script lines) before → IsToldIn script lines note → AllowedAt (terms_of script) before note
  allowed before (Open s c number n) front here = here
  allowed before (Took s key mode) front here = tt
  allowed before (Gave s) front here = absurd here
  allowed before (Wrote s work) front here = absurd here
  allowed before (Did s c number call reads reply) front here = tt
  allowed before (Cut op path gone) front here = absurd here
  allowed before (Met s cause) front here = absurd here
  allowed before (Gone n ended) front here = absurd here

  answered : (before : List Note) (note : Note) → AllByRecursion (IsToldIn script lines) before → IsToldIn script lines note → AnsweredAt (terms_in settings) before note → AnsweredAt (terms_of script) before note
  answered before (Open s c number n) front here p = tt
  answered before (Took s key mode) front here p = tt
  answered before (Gave s) front here p = absurd here
  answered before (Wrote s work) front here p = absurd here
  answered before (Did s c number call reads reply) front here p = (p.0, here.0, p.2)
  answered before (Cut op path gone) front here p = absurd here
  answered before (Met s cause) front here p = absurd here
  answered before (Gone n ended) front here p = absurd here

  accounted : (before : List Note) (note : Note) → AllByRecursion (IsToldIn script lines) before → IsToldIn script lines note → AnsweredAt (terms_in settings) before note → AccountedAt lines before note
  accounted before (Open s c number n) front here p = tt
  accounted before (Took s key mode) front here p = tt
  accounted before (Gave s) front here p = absurd here
  accounted before (Wrote s work) front here p = absurd here
  accounted before (Did s c number call reads reply) front here p = (here.1, p.2)
  accounted before (Cut op path gone) front here p = absurd here
  accounted before (Met s cause) front here p = absurd here
  accounted before (Gone n ended) front here p = absurd here

  no_more : (before : List Note) (note : Note) → AllByRecursion (IsToldIn script lines) before → IsToldIn script lines note → OpensNoMoreAt before note
  no_more before (Open s c number n) front here = none-any (is_stop_of n) (IsToldIn script lines) (no_stop n) before front
  no_more before (Took s key mode) front here = tt
  no_more before (Gave s) front here = absurd here
  no_more before (Wrote s work) front here = absurd here
  no_more before (Did s c number call reads reply) front here = tt
  no_more before (Cut op path gone) front here = absurd here
  no_more before (Met s cause) front here = absurd here
  no_more before (Gone n ended) front here = absurd here

  silent : (before : List Note) (note : Note) → AllByRecursion (IsToldIn script lines) before → IsToldIn script lines note → VoidIsSilentAt before note
  silent before (Open s c number n) front here = tt
  silent before (Took s key mode) front here = λ void. absurd (let not = not_void before s front in let bad : true ≡ false = sym void ∙ not in let no = bad in cc)
  silent before (Gave s) front here = absurd here
  silent before (Wrote s work) front here = absurd here
  silent before (Did s c number call reads reply) front here = λ void. absurd (let not = not_void before s front in let bad : true ≡ false = sym void ∙ not in let no = bad in cc)
  silent before (Cut op path gone) front here = absurd here
  silent before (Met s cause) front here = absurd here
  silent before (Gone n ended) front here = absurd here

  -- what is told by neither an opening nor a lock nor an answer
  calm : (Q : List Note → Note → Type 0)
      → ((before : List Note) (s : SessionId) (c : _) (number : ℕ) (n : NodeNo) → Q before (Open s c number n))
      → ((before : List Note) (s : SessionId) (key : _) (mode : _) → Q before (Took s key mode))
      → ((before : List Note) (s : SessionId) (c : _) (number : ℕ) (call : Call) (reads : ℕ) (reply : Reply) → Q before (Did s c number call reads reply))
      → Each Q notes
  calm Q at_open at_took at_did = along Q by
    where
      by : (before : List Note) (note : Note) → AllByRecursion (IsToldIn script lines) before → IsToldIn script lines note → Q before note
      by before (Open s c number n) front here = at_open before s c number n
      by before (Took s key mode) front here = at_took before s key mode
      by before (Gave s) front here = absurd here
      by before (Wrote s work) front here = absurd here
      by before (Did s c number call reads reply) front here = at_did before s c number call reads reply
      by before (Cut op path gone) front here = absurd here
      by before (Met s cause) front here = absurd here
      by before (Gone n ended) front here = absurd here

  pub orderly : Orderly script notes
  orderly = record {
    numbered = book.orderly.numbered;
    allowed = along (AllowedAt (terms_of script)) allowed;
    opened = book.orderly.opened;
    unended = book.orderly.unended;
    answered = Each-with (AnsweredAt (terms_in settings)) (AnsweredAt (terms_of script)) (IsToldIn script lines) answered notes told book.orderly.answered;
  }

  pub all_accounted : Each (AccountedAt lines) notes
  all_accounted = Each-with (AnsweredAt (terms_in settings)) (AccountedAt lines) (IsToldIn script lines) accounted notes told book.orderly.answered

  pub explained : Each ExplainedAt notes
  explained = calm ExplainedAt (λ before s c number n. tt) (λ before s key mode. tt) (λ before s c number call reads reply. tt)

  -- what runs keep
  pub kept : script.stops ≡ [] → AllByRecursion (λ (line : AnswerLine). EndKept script notes lines line.client line.call line.end) lines → KeptWithoutLocks script notes lines
  kept stays ends = record {
    stops = record {
      in_time = calm (StopsInTimeAt script.stops) (λ before s c number n. tt) (λ before s key mode. tt) (λ before s c number call reads reply. tt);
      all = ap (list_all (has_stopped notes)) stays;
      no_more = along OpensNoMoreAt no_more;
    };
    evicts = calm EvictsMembersAt (λ before s c number n. tt) (λ before s key mode. tt) (λ before s c number call reads reply. tt);
    silent = along VoidIsSilentAt silent;
    cuts = calm (CutsInTimeAt script notes) (λ before s c number n. tt) (λ before s key mode. tt) (λ before s c number call reads reply. tt);
    cut_once = calm CutOnceAt (λ before s c number n. tt) (λ before s key mode. tt) (λ before s c number call reads reply. tt);
    reclaims = calm ReclaimsLostAt (λ before s c number n. tt) (λ before s key mode. tt) (λ before s c number call reads reply. tt);
    in_order = book.in_order;
    ends = ends;
  }

  -- no subtree is taken
  flagged_after : (users : List (List ℕ)) (before rest : List Note) → IsNamespace (space users before) → AllByRecursion (IsToldIn script lines) rest → EachAfter (AnsweredAt (terms_in settings)) before rest
      → EachAfter (SubtreesFlaggedAt (λ c. true) users) before rest
  flagged_after users before [] is all each = tt
  flagged_after users before (Open s c number n ∷ rest) is all each =
      (tt, flagged_after users (before ++ Open s c number n ∷ []) rest (subst IsNamespace (sym (space-push users before (Open s c number n))) is) all.1 each.1)
  flagged_after users before (Took s key mode ∷ rest) is all each =
      (tt, flagged_after users (before ++ Took s key mode ∷ []) rest (subst IsNamespace (sym (space-push users before (Took s key mode))) is) all.1 each.1)
  flagged_after users before (Gave s ∷ rest) is all each = absurd all.0
  flagged_after users before (Wrote s work ∷ rest) is all each = absurd all.0
  flagged_after users before (Did s c number call reads reply ∷ rest) is all each = (
    λ of taken. absurd (let none = takes_none (space users before) is c (unwrap_or (slice_get users c.0) []) call all.0.2 in let bad : true ≡ false = sym taken ∙ none in let no = bad in cc),
    flagged_after users (before ++ Did s c number call reads reply ∷ []) rest
        (subst IsNamespace (sym (space-push users before (Did s c number call reads reply))) (plain_keeps_a_namespace (space users before) c (unwrap_or (slice_get users c.0) []) call is (valid_names call each.0.1))) all.1 each.1,
  )
  flagged_after users before (Cut op path gone ∷ rest) is all each = absurd all.0
  flagged_after users before (Met s cause ∷ rest) is all each = absurd all.0
  flagged_after users before (Gone n ended ∷ rest) is all each = absurd all.0

  pub flagged : (users : List (List ℕ)) → SubtreesFlagged (λ c. true) users notes
  unfolding Each
  flagged users = flagged_after users [] notes (subst IsNamespace (sym (space-none users)) opening_is_a_namespace) told book.orderly.answered

  -- all that runs keep
  pub all_kept : script.stops ≡ [] → settings.users ≡ users_of script → AllByRecursion (λ (line : AnswerLine). EndKept script notes lines line.client line.call line.end) lines → Kept script notes lines
  all_kept stays users ends = record {
    kept = kept stays ends;
    held = subst (λ (us : List (List ℕ)). AnswersHeld us notes) users book.held;
    flagged = flagged (users_of script);
  }

-- ---- the answers

each_call : (script : Script) (one : ClientCalls) (turns : List Turn) → script.clients ≡ one ∷ [] → calls_made turns ≡ one.calls → list_map call_answered (turns_lines 0 0 turns) ≡ calls_in script
each_call script one turns is made =
    lines_numbered 0 0 turns
    ∙ ap (λ k. list_map (λ (number : ℕ). (0, number)) (range_with_len 1 k)) (sym (length-map turns (λ (t : Turn). t.call)) ∙ ap length made)
    ∙ sym (append-nil (list_map (λ (number : ℕ). (0, number)) (range_with_len 1 (length one.calls))))
    ∙ ap (λ (clients : List ClientCalls). flat_map calls_of (enumerate_from 0 clients)) (sym is)

answers_all : (script : Script) (one : ClientCalls) (turns : List Turn) (settings : Settings) → script.clients ≡ one ∷ [] → calls_made turns ≡ one.calls
    → AllByRecursion (IsToldIn script (turns_lines 0 0 turns)) (turns_notes 0 turns) → IsBook settings (turns_notes 0 turns) → Answers script (turns_notes 0 turns) (turns_lines 0 0 turns)
answers_all script one turns settings is made told book = record {
  each = each_call script one turns is made;
  borne_out = lines_borne script (turns_lines 0 0 turns) (turns_notes 0 turns) [] 0 turns refl;
  rise = each_line (λ (line : AnswerLine). IsStrictlySortedBy nat_cmp (dones (turns_lines 0 0 turns) line.client)) (λ number i reply. lines_rise turns) 0 0 turns;
  accounted = all_accounted script (turns_lines 0 0 turns) settings (turns_notes 0 turns) told book;
}

-- ---- the run

-- what these turns leave is a run
turns_run : (script : Script) (one : ClientCalls) (turns : List Turn) (state : State) → IsBuilt script → script.clients ≡ one ∷ [] → calls_made turns ≡ one.calls
    → state.stored.notes ≡ turns_notes 0 turns → state.stored.settings.users ≡ users_of script → IsCore state
    → IsRun script (turns_notes 0 turns) (turns_lines 0 0 turns) (space (users_of script) (turns_notes 0 turns))
turns_run script one turns state small is made notes users core =
    let users_one : users_of script ≡ one.user ∷ [] = ap (list_map (λ (c : ClientCalls). c.user)) is in
    let book : IsBook state.stored.settings (turns_notes 0 turns) = subst (IsBook state.stored.settings) notes core.book in
    let told = all_told script one turns is small.namenodes small.calls made in
    let legal : Legal (users_of script) (turns_notes 0 turns) = subst (λ (us : List (List ℕ)). Legal us (turns_notes 0 turns)) users (subst (Legal state.stored.settings.users) notes core.stored.legal) in
    let names : IsNamespace (space (users_of script) (turns_notes 0 turns)) =
    subst (λ (us : List (List ℕ)). IsNamespace (space us (turns_notes 0 turns))) users (subst (λ (ns : List Note). IsNamespace (space state.stored.settings.users ns)) notes core.stored.names) in
    let lawful : Legal (one.user ∷ []) (turns_notes 0 turns) = subst (λ (us : List (List ℕ)). Legal us (turns_notes 0 turns)) users_one legal in
    let replies : list_map (λ (line : AnswerLine). reply_in line.end) (turns_lines 0 0 turns) ≡ list_map Some (replies_of opening (client 0) one.user one.calls) =
    lines_tell 0 0 turns ∙ ap (list_map Some) (replies_plain one.user turns lawful) ∙ ap (λ (cs : List Call). list_map Some (replies_of opening (client 0) one.user cs)) made in
    let last : space (users_of script) (turns_notes 0 turns) ≡ space_after_calls opening (client 0) one.user one.calls =
    ap (λ (us : List (List ℕ)). space us (turns_notes 0 turns)) users_one ∙ space_plain one.user turns ∙ ap (space_after_calls opening (client 0) one.user) made in
    record {
      told = record {
        orderly = orderly script (turns_lines 0 0 turns) state.stored.settings (turns_notes 0 turns) told book;
        legal = legal;
        sound = book.sound;
        answers = answers_all script one turns state.stored.settings is made told book;
        licensed = book.licensed;
        explained = explained script (turns_lines 0 0 turns) state.stored.settings (turns_notes 0 turns) told book;
        tree = refl;
      };
      kept = all_kept script (turns_lines 0 0 turns) state.stored.settings (turns_notes 0 turns) told book small.stays users
          (each_line (λ (line : AnswerLine). EndKept script (turns_notes 0 turns) (turns_lines 0 0 turns) line.client line.call line.end) (λ number i reply. tt) 0 0 turns);
      names = names;
      quiet = quiet_notes script (turns_lines 0 0 turns) (turns_notes 0 turns) told;
      plain = subst (λ (cs : List ClientCalls). IsPlainRun cs (turns_lines 0 0 turns) (space (users_of script) (turns_notes 0 turns))) (sym is) (replies, last);
    }

-- the run of no client
none_run : (script : Script) (state : State) → IsBuilt script → script.clients ≡ [] → state.stored.notes ≡ [] → state.stored.settings.users ≡ users_of script → IsCore state
    → IsRun script [] [] (space (users_of script) [])
none_run script state small is notes users core =
    let book : IsBook state.stored.settings [] = subst (IsBook state.stored.settings) notes core.book in
    record {
      told = record {
        orderly = orderly script [] state.stored.settings [] tt book;
        legal = subst (λ (us : List (List ℕ)). Legal us []) users (subst (Legal state.stored.settings.users) notes core.stored.legal);
        sound = book.sound;
        answers = record {
          each = ap (λ (clients : List ClientCalls). flat_map calls_of (enumerate_from 0 clients)) (sym is);
          borne_out = tt;
          rise = tt;
          accounted = all_accounted script [] state.stored.settings [] tt book;
        };
        licensed = book.licensed;
        explained = explained script [] state.stored.settings [] tt book;
        tree = refl;
      };
      kept = all_kept script [] state.stored.settings [] tt book small.stays users tt;
      names = subst (λ (us : List (List ℕ)). IsNamespace (space us [])) users (subst (λ (ns : List Note). IsNamespace (space state.stored.settings.users ns)) notes core.stored.names);
      quiet = refl;
      plain = subst (λ (cs : List ClientCalls). IsPlainRun cs [] (space (users_of script) [])) (sym is) (refl, space-none (users_of script));
    }

-- what is told of a run, by what it is
told_as : (script : Script) (notes notes' : List Note) (lines lines' : List AnswerLine) (users : List (List ℕ)) (tree : Namespace) → notes ≡ notes' → lines ≡ lines' → users ≡ users_of script → tree ≡ space users notes
    → IsRun script notes' lines' (space (users_of script) notes') → IsRun script notes lines tree
told_as script notes notes' lines lines' users tree same told acting shown run =
    subst (λ (t : Namespace). IsRun script notes lines t) (ap (λ (us : List (List ℕ)). space us notes') (sym acting) ∙ ap (space users) (sym same) ∙ sym shown)
    (subst (λ (ns : List Note). IsRun script ns lines (space (users_of script) notes')) (sym same)
    (subst (λ (ls : List AnswerLine). IsRun script notes' ls (space (users_of script) notes')) (sym told) run))

-- the run of a small script all of whose calls were answered
pub run_all : (script : Script) (clients : List ClientCalls) (settings : Settings) (state : State) (notes : List Note) (lines : List AnswerLine) (tree : Namespace) → IsBuilt script → script.clients ≡ clients
    → AreAllTurned settings clients state lines → settings.users ≡ users_of script → IsCore state → notes ≡ state.stored.notes → tree ≡ space state.stored.settings.users state.stored.notes → IsRun script notes lines tree
run_all script [] settings state notes lines tree small is done acting core same shown =
    let users : state.stored.settings.users ≡ users_of script = ap (λ (s : Settings). s.users) done.2 ∙ acting in
    told_as script notes [] lines [] state.stored.settings.users tree (same ∙ done.0) done.1 users (shown ∙ ap (space state.stored.settings.users) (sym same)) (none_run script state small is done.0 users core)
run_all script (one ∷ []) settings state notes lines tree small is done acting core same shown =
    let users : state.stored.settings.users ≡ users_of script = ap (λ (s : Settings). s.users) done.settings_are ∙ acting in
    told_as script notes (turns_notes 0 done.turns) lines (turns_lines 0 0 done.turns) state.stored.settings.users tree (same ∙ done.notes) done.told users (shown ∙ ap (space state.stored.settings.users) (sym same))
    (turns_run script one done.turns state small is (done.made ∙ take-length one.calls) done.notes users core)
run_all script (one ∷ other ∷ more) settings state notes lines tree small is done acting core same shown = absurd done

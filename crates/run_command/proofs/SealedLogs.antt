-- What a folder holds while logs are sealed, one after another.
use Rattle.std.proofs.Common.{◌≡◌, ◌<◌, ⊎_elim, append-nil, refl, sym, ap, subst, ◌∙◌, ℕ, List, [], ◌∷◌, ◌++◌, Option, Some, None, Result, Ok, Err, OnOk, OnErr, true}
use Rattle.std.specs.Option.{option_map}
use Rattle.std.proofs.lemmas.List.{append_assoc, map-append}
use Rattle.std.proofs.lemmas.List.Elements.{All-nil, All-pop, All-push, All-weaker}
use Rattle.sw_base.specs.declared.closed_log.ClosedLog.{ClosedLog}
use Rattle.sw_base.specs.declared.path.Step.{Step}
use Rattle.sw_base.specs.declared.trouble.Trouble.{Trouble}
use Rattle.sw_base.specs.Environment.{Content, LeavesPrefix, Outline, Text, WhereTold, outline_of, with_log, with_put}
use Rattle.sw_base.specs.Names.{log_name}
use Rattle.sw_base.specs.HandedLog.{HandedLog, IsOwnLog, SealsPrefix, between, handed_log, outline, sealed_name, torn, with_sealed, with_told}
use Rattle.region_runner.specs.Answer.{AreFaultless}
use Rattle.run_command.specs.Seals.{RaiseFaults, Seals, SealsAll, TellsSuch, all_logged}

-- some logs, and more after them
with_sealed-append : (logs more : List HandedLog) (content : Content) → with_sealed (logs ++ more) content ≡ with_sealed more (with_sealed logs content)
with_sealed-append [] more content = refl
with_sealed-append (log ∷ logs) more content = with_sealed-append logs more (with_told (sealed_name log) log.told content)

-- one more log that tells its content
with_sealed-push : (logs : List HandedLog) (log : HandedLog) (text : Text) (content : Content) → log.told ≡ outline (Some text)
    → with_sealed (logs ++ log ∷ []) content ≡ with_log (sealed_name log) text (with_sealed logs content)
with_sealed-push logs log text content told =
    with_sealed-append logs (log ∷ []) content ∙ ap (λ (told : Option Outline). with_told (sealed_name log) told (with_sealed logs content)) told

-- nothing was sealed yet
seals_none : (content : Content) → Seals [] (Ok tt) content content
seals_none content = record { done = refl; prefix = between [] [] refl refl }

module _ (logs : List HandedLog) (log : HandedLog) (old mid : Content) where
  -- a log was sealed
  seals_push : (text : Text) → log.told ≡ outline (Some text) → Seals logs (Ok tt) old mid → Seals (logs ++ log ∷ []) (Ok tt) old (with_log (sealed_name log) text mid)
  seals_push text told before =
      let done : with_log (sealed_name log) text mid ≡ with_sealed (logs ++ log ∷ []) old =
      ap (with_log (sealed_name log) text) before.done ∙ sym (with_sealed-push logs log text old told) in
      record { done = done; prefix = between (logs ++ log ∷ []) [] (sym (append-nil (logs ++ log ∷ []))) done }

  -- a log was refused
  seals_refused : (text : Text) (trouble : Trouble) (new : Option Content) → log.told ≡ outline (Some text) → Seals logs (Ok tt) old mid
      → LeavesPrefix (Some mid) new (sealed_name log) text.bytes → TellsSuch new (Seals (logs ++ log ∷ []) (Err trouble) old)
  seals_refused text trouble new told before left =
      ⊎_elim
      (λ same. let it : TellsSuch new (Seals (logs ++ log ∷ []) (Err trouble) old) = record {
        content = mid;
        is = same;
        holds = record { done = tt; prefix = between logs (log ∷ []) refl before.done };
      } in it)
      (λ put. record {
        content = with_put (sealed_name log) left.prefix mid;
        is = put;
        holds = record {
          done = tt;
          prefix = torn logs log [] refl (outline_of text) told left.prefix left.rest left.parts (ap (with_put (sealed_name log) left.prefix) before.done);
        };
      })
      left.leaves

  -- an earlier one was
  seals_given_up : (trouble : Trouble) → Seals logs (Err trouble) old mid → Seals (logs ++ log ∷ []) (Err trouble) old mid
  seals_given_up trouble before = record { done = tt; prefix = longer before.prefix } where
    longer : SealsPrefix logs old mid → SealsPrefix (logs ++ log ∷ []) old mid
    longer (between first rest parts leaves) =
        between first (rest ++ log ∷ []) (ap (λ (ls : List HandedLog). ls ++ log ∷ []) parts ∙ append_assoc first rest (log ∷ [])) leaves
    longer (torn first next rest parts told is prefix behind bytes leaves) =
        torn first next (rest ++ log ∷ []) (ap (λ (ls : List HandedLog). ls ++ log ∷ []) parts ∙ append_assoc first (next ∷ rest) (log ∷ [])) told is prefix behind bytes leaves

  -- one more log was sealed or refused
  seals_next : (dir : List ℕ) → IsOwnLog dir true log → (text : Option Text) (r : Result (Unit {0}) Trouble) (new : Option Content) → log.told ≡ outline text → Seals logs (Ok tt) old mid
      → OnOk r (WhereTold text (λ t. new ≡ option_map (with_log (sealed_name log) t) (Some mid)))
      → OnErr r (WhereTold text (λ t. LeavesPrefix (Some mid) new (sealed_name log) t.bytes))
      → TellsSuch new (Seals (logs ++ log ∷ []) r old)
  seals_next dir own None r new told before done refused = let tells = own.tells_so in absurd (cc)
  seals_next dir own (Some text) (Ok _) new told before done refused = record { content = _; is = done text refl; holds = seals_push text told before }
  seals_next dir own (Some text) (Err trouble) new told before done refused = seals_refused text trouble new told before (refused text refl)

-- no log yet
pub seals_all_none : (told : Option Content) → SealsAll [] (Ok tt) told told
seals_all_none told dir content tell is = record { content = content; is = is; holds = seals_none content }

-- one more log
seals_all_next : (logs : List HandedLog) (log : HandedLog) (text : Option Text) (so_far r : Result (Unit {0}) Trouble) (old mid new : Option Content) → log.told ≡ outline text → SealsAll logs so_far old mid
    → OnOk so_far (OnOk r (WhereTold text (λ t. new ≡ option_map (with_log (sealed_name log) t) mid)))
    → OnOk so_far (OnErr r (WhereTold text (λ t. LeavesPrefix mid new (sealed_name log) t.bytes)))
    → OnErr so_far ((r ≡ so_far) × (new ≡ mid)) → SealsAll (logs ++ log ∷ []) r old new
seals_all_next logs log text (Ok _) r old mid new told before done refused given_up dir content tell is =
    let both = All-pop (IsOwnLog dir true) (logs ++ log ∷ []) logs (Some log) refl tell in
    let now = before dir content both.0 is in
    seals_next logs log content now.content dir both.1 text r new told now.holds
    (subst (λ (m : Option Content). OnOk r (WhereTold text (λ t. new ≡ option_map (with_log (sealed_name log) t) m))) now.is done)
    (subst (λ (m : Option Content). OnErr r (WhereTold text (λ t. LeavesPrefix m new (sealed_name log) t.bytes))) now.is refused)
seals_all_next logs log text (Err trouble) r old mid new told before done refused given_up dir content tell is =
    let both = All-pop (IsOwnLog dir true) (logs ++ log ∷ []) logs (Some log) refl tell in
    let now = before dir content both.0 is in
    record {
      content = now.content;
      is = given_up.1 ∙ now.is;
      holds = subst (λ (e : Result (Unit {0}) Trouble). Seals (logs ++ log ∷ []) e content now.content) (sym given_up.0) (seals_given_up logs log content now.content trouble now.holds);
    }

-- the same of the logs as they are answered
pub seals_all_push : {L : Type 0} (dir_of : L → List ℕ) (path_of : L → List Step) (text_of : L → Option Text) (entries : List (ClosedLog L)) (last : ClosedLog L)
    (so_far r : Result (Unit {0}) Trouble) (old mid new : Option Content) → SealsAll (all_logged dir_of path_of text_of entries) so_far old mid
    → OnOk so_far (OnOk r (WhereTold (text_of last.log) (λ t. new ≡ option_map (with_log (log_name (dir_of last.log) (path_of last.log)) t) mid)))
    → OnOk so_far (OnErr r (WhereTold (text_of last.log) (λ t. LeavesPrefix mid new (log_name (dir_of last.log) (path_of last.log)) t.bytes)))
    → OnErr so_far ((r ≡ so_far) × (new ≡ mid)) → SealsAll (all_logged dir_of path_of text_of (entries ++ last ∷ [])) r old new
seals_all_push dir_of path_of text_of entries last so_far r old mid new before done refused given_up =
    subst (λ (logs : List HandedLog). SealsAll logs r old new) (sym (map-append (handed_log dir_of path_of text_of) entries (last ∷ [])))
    (seals_all_next (all_logged dir_of path_of text_of entries) (handed_log dir_of path_of text_of last) (text_of last.log) so_far r old mid new refl before done refused given_up)

-- ---- faults of logs

-- no log counts a fault where there is none
pub faults_none : {L : Type 0} (faults_of : L → ℕ) (rose : Type 0) → RaiseFaults faults_of [] rose
faults_none faults_of rose = All-nil (λ e. 0 < faults_of e.log → rose)

-- what follows from a fault, and more from that
pub faults_weaker : {L : Type 0} (faults_of : L → ℕ) (entries : List (ClosedLog L)) (rose more : Type 0) → (rose → more) → RaiseFaults faults_of entries rose → RaiseFaults faults_of entries more
faults_weaker faults_of entries rose more rises = All-weaker (λ e. 0 < faults_of e.log → rose) (λ e. 0 < faults_of e.log → more) (λ e raise faulty. rises (raise faulty)) entries

-- one more log
pub faults_push : {L : Type 0} (faults_of : L → ℕ) (entries : List (ClosedLog L)) (last : ClosedLog L) (rose more : Type 0) → (rose → more) → RaiseFaults faults_of entries rose
    → (0 < faults_of last.log → more) → RaiseFaults faults_of (entries ++ last ∷ []) more
faults_push faults_of entries last rose more rises before own =
    All-push (λ e. 0 < faults_of e.log → more) entries last (faults_weaker faults_of entries rose more rises before) own

-- one more log was sealed after others, none of which counted a fault, and nor does it
pub faultless_push : {L : Type 0} (faults_of : L → ℕ) (entries : List (ClosedLog L)) (last : ClosedLog L) (so_far r : Result (Unit {0}) Trouble) (mid_told new_told : Option Content) (old mid new : ℕ)
    → OnOk so_far (AreFaultless faults_of entries → mid ≡ old) → OnOk so_far (OnOk r (faults_of last.log ≡ 0 → new ≡ mid)) → OnErr so_far ((r ≡ so_far) × (new_told ≡ mid_told))
    → OnOk r (AreFaultless faults_of (entries ++ last ∷ []) → new ≡ old)
faultless_push faults_of entries last (Ok x) (Ok y) mid_told new_told old mid new before one given_up = λ all.
    let parts = All-pop (λ e. faults_of e.log ≡ 0) (entries ++ last ∷ []) entries (Some last) refl all in
    one parts.1 ∙ before parts.0
faultless_push faults_of entries last (Ok x) (Err trouble) mid_told new_told old mid new before one given_up = tt
faultless_push faults_of entries last (Err trouble) (Ok y) mid_told new_told old mid new before one given_up = absurd cc
faultless_push faults_of entries last (Err trouble) (Err other) mid_told new_told old mid new before one given_up = tt

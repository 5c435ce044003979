-- What is asked of the run of a folder is asked of one folder, and nothing else is asked.
use Rattle.std.proofs.Common.{◌≡◌, ◌∙◌, sym, ap, refl, ℕ, List, [], ◌∷◌, Bool, true, false, ◌||◌, true≢false}
use Rattle.std.specs.Prelude.{codes}
use Rattle.std.specs.Str.{bytes_eq}
use Rattle.command_line.specs.Arguments.{AsksOfRun, Request, Says, SaysCertify, SaysGen, SaysReplay, SaysRun, SaysUpgrade, check, confirm, explain, run_name, show, to_check, to_confirm, to_explain, to_show}

abbrev first : List (List ℕ) → List ℕ
first [] = []
first (word ∷ words) = word

abbrev second : List (List ℕ) → List ℕ
second [] = []
second (word ∷ words) = first words

-- a word that asks something of a folder's run
abbrev names_run : List ℕ → Bool
names_run word = bytes_eq word (codes "check") || bytes_eq word (codes "show") || bytes_eq word (codes "explain") || bytes_eq word (codes "confirm")

module _ (arguments : List (List ℕ)) where
  folder_is : (dir : List ℕ) → AsksOfRun arguments dir → second arguments ≡ dir
  folder_is dir (to_check workers says) = ap second says.are
  folder_is dir (to_show says) = ap second says.are
  folder_is dir (to_explain low high says) = ap second says.are
  folder_is dir (to_confirm a i b j says) = ap second says.are

  pub one_folder : (dir other : List ℕ) → AsksOfRun arguments dir → AsksOfRun arguments other → dir ≡ other
  one_folder dir other a b = sym (folder_is dir a) ∙ folder_is other b

  named : (dir : List ℕ) → AsksOfRun arguments dir → names_run (first arguments) ≡ true
  named dir (to_check workers says) = ap (λ (words : List (List ℕ)). names_run (first words)) says.are
  named dir (to_show says) = ap (λ (words : List (List ℕ)). names_run (first words)) says.are
  named dir (to_explain low high says) = ap (λ (words : List (List ℕ)). names_run (first words)) says.are
  named dir (to_confirm a i b j says) = ap (λ (words : List (List ℕ)). names_run (first words)) says.are

  other : (dir : List ℕ) → names_run (first arguments) ≡ false → AsksOfRun arguments dir → ⊥
  other dir is asks = true≢false (sym (named dir asks) ∙ is)

  run_unnamed : (stays : Bool) → names_run (run_name stays) ≡ false
  run_unnamed true = refl
  run_unnamed false = refl

  pub not_run : (kernel folder dir : List ℕ) (size : ℕ) → SaysRun arguments kernel folder size → AsksOfRun arguments dir → ⊥
  not_run kernel folder dir size says = other dir (ap (λ (words : List (List ℕ)). names_run (first words)) says.are ∙ run_unnamed says.stays)

  pub not_replay : (kernel folder dir : List ℕ) → SaysReplay arguments kernel folder → AsksOfRun arguments dir → ⊥
  not_replay kernel folder dir says = other dir (ap (λ (words : List (List ℕ)). names_run (first words)) says.are)

  pub not_gen : (rounds workers : ℕ) (dir : List ℕ) → SaysGen arguments rounds workers → AsksOfRun arguments dir → ⊥
  not_gen rounds workers dir says = other dir (ap (λ (words : List (List ℕ)). names_run (first words)) says.are)

  pub not_upgrade : (folder new dir : List ℕ) → SaysUpgrade arguments folder new → AsksOfRun arguments dir → ⊥
  not_upgrade folder new dir says = other dir (ap (λ (words : List (List ℕ)). names_run (first words)) says.are)

  pub not_certify : (kernel dir : List ℕ) → SaysCertify arguments kernel → AsksOfRun arguments dir → ⊥
  not_certify kernel dir says = other dir (ap (λ (words : List (List ℕ)). names_run (first words)) says.are)

  pub not_usage : (dir : List ℕ) → ((request : Request) → Says arguments request → ⊥) → AsksOfRun arguments dir → ⊥
  not_usage dir none (to_check workers says) = none (check dir workers) says
  not_usage dir none (to_show says) = none (show dir) says
  not_usage dir none (to_explain low high says) = none (explain dir low high) says
  not_usage dir none (to_confirm a i b j says) = none (confirm dir a i b j) says

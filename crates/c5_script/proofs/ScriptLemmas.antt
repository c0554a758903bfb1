-- One more body, one more read block, one more turn word.
use Rattle.std.proofs.Common.{◌≡◌, ◌<◌, List, [], ◌∷◌, ◌++◌, length, subst, sym, arith}
use Rattle.std.specs.List.{AllByRecursion}
use Rattle.std.proofs.lemmas.List.{length_push}
use Rattle.c5_rows.specs.Sizes.{max_reads, max_turn_words}
use Rattle.c5_definitions.specs.declared.script.Statement.{Statement}
use Rattle.c5_definitions.specs.declared.script.TurnWord.{TurnWord}
use Rattle.c5_definitions.specs.ScriptParts.{ReadParts, ScriptParts}
use Rattle.c5_definitions.specs.FitsScript.{IsScript, IsBody, IsRead, IsTurn, BodyFits, ReadFits}

pub AllByRecursion-push : {X : Type 0} (P : X → Type 0) (xs : List X) (x : X) → AllByRecursion P xs
    → P x → AllByRecursion P (xs ++ x ∷ [])
AllByRecursion-push P [] x all last = (last, tt)
AllByRecursion-push P (first ∷ xs) x all last = (all.0, AllByRecursion-push P xs x all.1 last)

pub IsScript-body : (script : ScriptParts) (body : List Statement) (bodies : List (List Statement))
    → IsScript script → IsBody body → BodyFits script.tables body
    → bodies ≡ script.bodies ++ body ∷ []
    → IsScript
    (record {
      tables = script.tables;
      bodies = bodies;
      reads = script.reads;
      turns = script.turns;
    })
IsScript-body script body bodies is own fits same = record {
  schema = is.schema;
  each_table = is.each_table;
  bodies = subst (AllByRecursion IsBody) (sym same)
      (AllByRecursion-push IsBody script.bodies body is.bodies own);
  bodies_fit = subst (AllByRecursion (BodyFits script.tables)) (sym same)
      (AllByRecursion-push (BodyFits script.tables) script.bodies body is.bodies_fit fits);
  reads = is.reads;
  reads_fit = is.reads_fit;
  few_reads = is.few_reads;
  turns = is.turns;
  few_turns = is.few_turns;
}

pub IsScript-turn : (script : ScriptParts) (word : TurnWord) (turns : List TurnWord)
    → IsScript script → IsTurn word → length script.turns < max_turn_words
    → turns ≡ script.turns ++ word ∷ []
    → IsScript
    (record {
      tables = script.tables;
      bodies = script.bodies;
      reads = script.reads;
      turns = turns;
    })
IsScript-turn script word turns is own room same = record {
  schema = is.schema;
  each_table = is.each_table;
  bodies = is.bodies;
  bodies_fit = is.bodies_fit;
  reads = is.reads;
  reads_fit = is.reads_fit;
  few_reads = is.few_reads;
  turns = subst (AllByRecursion IsTurn) (sym same)
      (AllByRecursion-push IsTurn script.turns word is.turns own);
  few_turns = let longer = length_push script.turns word in rw same (omega arith);
}

pub IsScript-read : (script : ScriptParts) (read : ReadParts) (reads : List ReadParts)
    → IsScript script → IsRead read → ReadFits script.tables read → length script.reads < max_reads
    → reads ≡ script.reads ++ read ∷ []
    → IsScript
    (record {
      tables = script.tables;
      bodies = script.bodies;
      reads = reads;
      turns = script.turns;
    })
IsScript-read script read reads is own fits room same = record {
  schema = is.schema;
  each_table = is.each_table;
  bodies = is.bodies;
  bodies_fit = is.bodies_fit;
  reads = subst (AllByRecursion IsRead) (sym same)
      (AllByRecursion-push IsRead script.reads read is.reads own);
  reads_fit = subst (AllByRecursion (ReadFits script.tables)) (sym same)
      (AllByRecursion-push (ReadFits script.tables) script.reads read is.reads_fit fits);
  few_reads = let longer = length_push script.reads read in rw same (omega arith);
  turns = is.turns;
  few_turns = is.few_turns;
}

use Prim.Native.Nat.{◌-◌}
use Rattle.dictionary_search.proofs.Finding.{search_token}
use Rattle.dictionary_search.proofs.search_index.Goals as goal

-- src/lib.rt:42:1
pub returns : goal.returns
returns c = λ t H. search_token c.args.slots.now c.args.dictionary.now c.args.first t.bytes c.text_hash.result c.slot_of-home.result c.find_token.result (c.text_hash.ensures.value t H) c.slot_of-home.ensures (c.find_token.ensures t H)

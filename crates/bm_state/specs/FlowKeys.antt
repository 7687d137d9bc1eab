-- Flows as the keys of maps.
use Rattle.bm_base.specs.declared.flow.Flow.{Flow}
use Rattle.bm_state.specs.declared.flow_key.FlowKey.{FlowKey}

abbrev pub key_of : Flow → FlowKey
key_of f = record { sport = f.sport; dport = f.dport; src = f.src; dst = f.dst }

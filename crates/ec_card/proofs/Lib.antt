-- what comes through in Ethernet frames
pub mod PayloadsComeThrough

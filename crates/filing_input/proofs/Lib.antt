mod Cut
mod Taking
